-- Answering operations one after the other, and which questions and results follow from the service's answers.
use Rattle.std.proofs.Common.{◌≡◌, ℕ, ◌+◌, Bool, true, false, List, [], ◌∷◌, ◌++◌, length, refl, sym, ap, subst, ◌∙◌, append_assoc, arith}
use Rattle.std.specs.Prelude.{MatchBool}
use Rattle.std.specs.List.{flat_map}
use Rattle.std.proofs.lemmas.List.{append-nil, length-append}
use Rattle.std.proofs.lemmas.List.Concat.{flat_map-cons}
use Rattle.std.proofs.lemmas.Grind.{flat_map-append}
use Rattle.nfs_tree.specs.Effect.{Effect}
use Rattle.nfs_server.specs.Answering.{Dispatch, Known, Ask, dispatch, is_ok, outcome_of}
use Rattle.nfs_server.specs.Folding.{Asker, Place, HasEffect, IsAnswered, IsDetermined, place_after}
use Rattle.nfs_xdr.specs.declared.arg_op.ArgOp.{ArgOp}
use Rattle.nfs_xdr.specs.declared.op_result.OpResult.{OpResult}
use Rattle.nfs_xdr.specs.OpResult.{op_result, status_of}

-- what follows an answer: the results of the remaining operations if the answer is NFS4_OK, and otherwise nothing
abbrev Follows : {S : Type 0} → Asker S → Place S → Bool → List ArgOp → List OpResult → S → Type 0
Follows asker place ok ops results new =
    MatchBool ok (IsDetermined asker place ops results new) ((results ≡ []) × (new ≡ place.service))

-- lists of results that are equal are still equal with one more result in front
with_result : {results more : List OpResult} (answer : OpResult) → results ≡ more
    → ◌≡◌ {A = List OpResult} (answer ∷ results) (answer ∷ more)
with_result answer same = ap (λ (r : List OpResult). answer ∷ r) same

-- an operation with this dispatch, and what follows its answer
determined_by : {S : Type 0} (asker : Asker S) (old : Place S) (op : ArgOp) (ops : List ArgOp)
    (effect : Effect) (results : List OpResult) (service new : S) (ok : Bool) (how : Dispatch)
    → dispatch asker.export old.handles old.size op ≡ how → is_ok (status_of effect.answer) ≡ ok
    → HasEffect asker old how effect service
    → Follows asker (place_after old effect service) ok ops results new
    → IsDetermined asker old (op ∷ ops) (effect.answer ∷ results) new
unfolding outcome_of
determined_by asker old op ops effect results service new true (Known told) by goes is rest =
    let here = by ∙ ap (λ e. Known e) (sym is.0) in (
      rest.0,
      rw (here, goes, outcome_of) (rw (← is.1) rest.1),
      rw (here, goes, outcome_of) (with_result effect.answer rest.2),
    )
determined_by asker old op ops effect results service new false (Known told) by ends is rest =
    let here = by ∙ ap (λ e. Known e) (sym is.0) in (
      [],
      rw (here, ends, outcome_of) (rest.1 ∙ is.1),
      rw (here, ends, outcome_of) (with_result effect.answer rest.0),
    )
determined_by asker old op ops effect results service new true (Ask asked) by goes is rest =
    let next = rw is.1 at rest in (
      effect.answer ∷ next.0,
      rw (by, goes, outcome_of) (service, is.0, next.1),
      rw (by, goes, outcome_of) (with_result effect.answer next.2),
    )
determined_by asker old op ops effect results service new false (Ask asked) by ends is rest = (
  effect.answer ∷ [],
  rw (by, ends, outcome_of) (service, is.0, rest.1),
  rw (by, ends, outcome_of) (with_result effect.answer rest.0),
)

-- Results that are determined from the present place on, put after the results so far, are determined from the first
-- operation on.
abbrev pub Completes : {S : Type 0} → Asker S → Place S → List ArgOp → Place S → List ArgOp
    → List OpResult → Type 0
Completes {S = S} asker first ops now rest so_far =
    (results : List OpResult) (new : S) → IsDetermined asker now rest results new
    → IsDetermined asker first ops (so_far ++ results) new

-- the next operation has this effect, and these results follow its answer
completes : {S : Type 0} (asker : Asker S) (first now : Place S) (ops rest rest' : List ArgOp)
    (so_far : List OpResult) (op : ArgOp) (effect : Effect) (service : S)
    (results : List OpResult) (new : S) (ok : Bool)
    → rest ≡ op ∷ rest' → IsAnswered asker now op effect service
    → is_ok (status_of effect.answer) ≡ ok → Completes asker first ops now rest so_far
    → Follows asker (place_after now effect service) ok rest' results new
    → IsDetermined asker first ops (so_far ++ effect.answer ∷ results) new
completes asker first now ops rest rest' so_far op effect service results new ok is has goes more follows =
    let how = dispatch asker.export now.handles now.size op in
    let all =
    determined_by asker now op rest' effect results service new ok how refl goes has follows in
    let Left : List ArgOp → Type 0 = λ o. IsDetermined asker now o (effect.answer ∷ results) new in
    more (effect.answer ∷ results) new (subst Left (sym is) all)

-- the next operation is answered NFS4_OK, so more operations follow
pub completes_more : {S : Type 0} (asker : Asker S) (first now : Place S) (ops rest rest' : List ArgOp)
    (so_far : List OpResult) (op : ArgOp) (effect : Effect) (service : S)
    → rest ≡ op ∷ rest' → IsAnswered asker now op effect service
    → is_ok (status_of effect.answer) ≡ true → Completes asker first ops now rest so_far
    → Completes asker first ops (place_after now effect service) rest'
    (so_far ++ effect.answer ∷ [])
completes_more asker first now ops rest rest' so_far op effect service is has goes more results new follows =
    rw append_assoc
    (completes asker first now ops rest rest' so_far op effect service results new true is has goes more
    follows)

-- the next operation isn't answered NFS4_OK, so it is the last one
pub completes_last : {S : Type 0} (asker : Asker S) (first now : Place S) (ops rest rest' : List ArgOp)
    (so_far : List OpResult) (op : ArgOp) (effect : Effect) (service : S)
    → rest ≡ op ∷ rest' → IsAnswered asker now op effect service
    → is_ok (status_of effect.answer) ≡ false → Completes asker first ops now rest so_far
    → IsDetermined asker first ops (so_far ++ effect.answer ∷ []) service
completes_last asker first now ops rest rest' so_far op effect service is has ends more =
    completes asker first now ops rest rest' so_far op effect service [] service false is has ends more
    (refl, refl)

-- nothing is asked where there is no operation
pub determined_none : {S : Type 0} (asker : Asker S) (place : Place S) → IsDetermined asker place [] [] place.service
unfolding outcome_of
determined_none asker place = ([], refl, refl)

-- no operation is left
pub completes_none : {S : Type 0} (asker : Asker S) (first now : Place S) (ops rest : List ArgOp)
    (so_far : List OpResult)
    → rest ≡ [] → Completes asker first ops now rest so_far
    → IsDetermined asker first ops so_far now.service
completes_none asker first now ops rest so_far none more =
    let all = more [] now.service (rw none (determined_none asker now)) in
    let With : List OpResult → Type 0 = λ r. IsDetermined asker first ops r now.service in
    subst With (append-nil so_far) all

-- a list without length is empty
pub nothing : {A : Type 0} (xs : List A) (n : ℕ) → length xs ≡ n → n ≡ 0 → xs ≡ []
nothing [] n is none = refl
nothing (x ∷ xs) n is none = absurd (omega arith)

-- the bytes of results
abbrev bytes_of : List OpResult → List ℕ
bytes_of results = flat_map op_result.encoding results

-- the length of results with one more at the end
pub length_with : (results : List OpResult) (answer : OpResult)
    → length (flat_map op_result.encoding (results ++ answer ∷ []))
    ≡ length (flat_map op_result.encoding results) + length (op_result.encoding answer)
length_with results answer =
    ap length (flat_map-append op_result.encoding results (answer ∷ []))
    ∙ length-append (bytes_of results) (bytes_of (answer ∷ []))
    ∙ ap (λ (x : List ℕ). length (bytes_of results) + length x)
    (flat_map-cons op_result.encoding answer [] ∙ append-nil (op_result.encoding answer))
