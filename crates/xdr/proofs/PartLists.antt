-- Bytes that lie in parts, and other bytes that stand in them.
use Rattle.std.proofs.Common.{◌≡◌, ℕ, zero, suc, ◌+◌, ◌-◌, ◌<◌, ◌≤◌, Bool, true, false, List, [], ◌∷◌, ◌++◌, drop, get_or, length, take, MatchBool, refl, subst, sym, ◌∙◌, ap, arith, length-append, length-drop}
use Rattle.std.specs.Prelude.{min}
use Rattle.std.specs.List.{concat}
use Rattle.std.specs.Str.{bytes_eq}
use Rattle.std.proofs.Math.Seq.{take-add}
use Rattle.std.proofs.lemmas.Bool.{false_from_ne_true}
use Rattle.std.proofs.lemmas.List.{append_cancel_left, drop-drop, drop-take, drop_all, drop_at, drop_more, length-take, take-take, take_all, take_at, take_min}
use Rattle.std.proofs.lemmas.Slice.Eq.{bytes_eq-Decides}
use Rattle.xdr.specs.Parts.{StandAt}

drop-append : (n : ℕ) (xs ys : List ℕ) → drop n (xs ++ ys) ≡ drop n xs ++ drop (n - length xs) ys
drop-append zero xs ys =
    let none : zero ≡ zero - length xs = omega arith in
    ap (λ k. xs ++ drop k ys) none
drop-append (suc n) [] ys =
    let all : suc n ≡ suc n - length {A = ℕ} [] = omega arith in
    ap (λ k. drop k ys) all
drop-append (suc n) (x ∷ xs) ys =
    let less : n - length xs ≡ suc n - length (x ∷ xs) = omega arith in
    drop-append n xs ys ∙ ap (λ k. drop n xs ++ drop k ys) less

take-append : (n : ℕ) (xs ys : List ℕ) → take n (xs ++ ys) ≡ take n xs ++ take (n - length xs) ys
take-append zero xs ys =
    let none : zero ≡ zero - length xs = omega arith in
    ap (λ k. take k ys) none
take-append (suc n) [] ys =
    let all : suc n ≡ suc n - length {A = ℕ} [] = omega arith in
    ap (λ k. take k ys) all
take-append (suc n) (x ∷ xs) ys =
    let less : n - length xs ≡ suc n - length (x ∷ xs) = omega arith in
    ap (λ rest. x ∷ rest) (take-append n xs ys ∙ ap (λ k. take n xs ++ take k ys) less)

-- Lists of parts

-- the part that a loop comes to, and those behind it
pub next_part : (parts : List (List ℕ)) (i : ℕ) (item part : List ℕ) → i < length parts → item ≡ get_or parts i item → part ≡ item → concat (drop i parts) ≡ part ++ concat (drop (i + 1) parts)
next_part parts i item part below is same =
    ap concat (drop_more parts i item below) ∙ ap (λ (xs : List ℕ). xs ++ concat (drop (i + 1) parts)) (sym is ∙ sym same)

-- no part is left
pub none_left : (parts : List (List ℕ)) (i : ℕ) → length parts ≤ i → concat (drop i parts) ≡ []
none_left parts i past = ap concat (drop_all i parts past)

-- Bytes that stand in a part, and in those behind it

-- what is left of them behind the part stands in those behind it just if all stand there
cut_behind : (from : ℕ) (bytes left part more : List ℕ) → bytes ≡ take (length bytes) (drop from part) ++ left
    → take (length bytes) (drop from (part ++ more)) ≡ take (length bytes) (drop from part) ++ take (length left) (drop (from - length part) more)
cut_behind from bytes left part more found =
    let wanted : length bytes - length (drop from part) ≡ length left =
    omega (arith, ap length found, length-append (take (length bytes) (drop from part)) left, length-take (length bytes) (drop from part)) in
    ap (take (length bytes)) (drop-append from part more)
    ∙ take-append (length bytes) (drop from part) (drop (from - length part) more)
    ∙ ap (λ n. take (length bytes) (drop from part) ++ take n (drop (from - length part) more)) wanted

pub found_before : (from : ℕ) (bytes left part more : List ℕ) → bytes ≡ take (length bytes) (drop from part) ++ left
    → StandAt (from - length part) left more → StandAt from bytes (part ++ more)
found_before from bytes left part more found rest =
    found ∙ ap (λ (xs : List ℕ). take (length bytes) (drop from part) ++ xs) rest ∙ sym (cut_behind from bytes left part more found)

pub found_behind : (from : ℕ) (bytes left part more : List ℕ) → bytes ≡ take (length bytes) (drop from part) ++ left
    → StandAt from bytes (part ++ more) → StandAt (from - length part) left more
found_behind from bytes left part more found all =
    append_cancel_left (take (length bytes) (drop from part)) left (take (length left) (drop (from - length part) more))
    (sym found ∙ all ∙ cut_behind from bytes left part more found)

-- whether they stand there, by what is left of them behind the part
pub like_behind : (r : Bool) (from after : ℕ) (bytes left part more : List ℕ) → bytes ≡ take (length bytes) (drop from part) ++ left → after ≡ from - length part
    → MatchBool r (StandAt after left more) (StandAt after left more → ⊥) → MatchBool r (StandAt from bytes (part ++ more)) (StandAt from bytes (part ++ more) → ⊥)
like_behind true from after bytes left part more found is stands =
    found_before from bytes left part more found (subst (λ n. StandAt n left more) is stands)
like_behind false from after bytes left part more found is differ =
    λ all. differ (subst (λ n. StandAt n left more) (sym is) (found_behind from bytes left part more found all))

-- they don't stand there if the part has others
pub not_found : (from : ℕ) (bytes part more : List ℕ) → ((left : List ℕ) → bytes ≡ take (length bytes) (drop from part) ++ left → ⊥) → StandAt from bytes (part ++ more) → ⊥
not_found from bytes part more differ all =
    differ (take (length bytes - length (drop from part)) (drop (from - length part) more))
    (
    all ∙ ap (take (length bytes)) (drop-append from part more)
    ∙ take-append (length bytes) (drop from part) (drop (from - length part) more)
    )

-- nothing but no bytes stands in no parts
pub found_all : (from : ℕ) (bytes : List ℕ) → bytes ≡ [] → StandAt from bytes []
found_all from bytes none =
    let few : length {A = ℕ} (drop from []) ≤ length bytes = omega (arith, length-drop {A = ℕ} from []) in
    none ∙ sym (drop_all {X = ℕ} from [] (omega arith)) ∙ sym (take_all (length bytes) (drop from []) few)

pub some_left : (from : ℕ) (bytes : List ℕ) → 0 < length bytes → StandAt from bytes [] → ⊥
some_left from bytes some all =
    absurd (omega (arith, some, ap length all, length-take (length bytes) (drop {A = ℕ} from []), length-drop {A = ℕ} from []))

-- what a part has of them, if it has as many as it can
pub left_is : (from : ℕ) (bytes part rest here first left : List ℕ) → rest ≡ drop from part → here ≡ take (min (length bytes) (length rest)) rest → bytes ≡ first ++ left → first ≡ here
    → bytes ≡ take (length bytes) (drop from part) ++ left
left_is from bytes part rest here first left rest_is here_is both same =
    both ∙ ap (λ (xs : List ℕ). xs ++ left) (same ∙ here_is ∙ take_min (length bytes) rest ∙ ap (take (length bytes)) rest_is)

pub none_is : (from : ℕ) (bytes part rest here first next : List ℕ) → rest ≡ drop from part → here ≡ take (min (length bytes) (length rest)) rest → first ≡ take (length here) bytes → (first ≡ here → ⊥)
    → bytes ≡ take (length bytes) (drop from part) ++ next → ⊥
none_is from bytes part rest here first next rest_is here_is first_is differ is =
    let shown : take (length bytes) (drop from part) ≡ here =
    sym (here_is ∙ take_min (length bytes) rest ∙ ap (take (length bytes)) rest_is) in
    differ (first_is ∙ ap (take (length here)) (is ∙ ap (λ (xs : List ℕ). xs ++ next) shown) ∙ take_at here next (length here) refl)

-- Bytes one after the other that stand in others

pub stand_both : (from : ℕ) (xs ys all : List ℕ) → StandAt from xs all → StandAt (from + length xs) ys all → StandAt from (xs ++ ys) all
stand_both from xs ys all here there =
    let behind : ys ≡ take (length ys) (drop (length xs) (drop from all)) =
    there ∙ ap (take (length ys)) (sym (drop-drop (length xs) from all)) in
    (λ i. here i ++ behind i)
    ∙ sym (take-add (length xs) (length ys) (drop from all))
    ∙ ap (λ k. take k (drop from all)) (sym (length-append xs ys))

pub stand_first : (from : ℕ) (xs ys all : List ℕ) → StandAt from (xs ++ ys) all → StandAt from xs all
stand_first from xs ys all both =
    sym (take_at xs ys (length xs) refl)
    ∙ ap (take (length xs)) both
    ∙ take-take (length xs) (length (xs ++ ys)) (drop from all) (omega (arith, length-append xs ys))

pub stand_second : (from : ℕ) (xs ys all : List ℕ) → StandAt from (xs ++ ys) all → StandAt (from + length xs) ys all
stand_second from xs ys all both =
    sym (drop_at xs ys (length xs) refl)
    ∙ ap (drop (length xs)) both
    ∙ ap (λ k. drop (length xs) (take k (drop from all))) (length-append xs ys)
    ∙ drop-take (length xs) (length ys) (drop from all)
    ∙ ap (take (length ys)) (drop-drop (length xs) from all)

-- no bytes stand anywhere
pub stand_none : (from : ℕ) (bytes all : List ℕ) → bytes ≡ [] → StandAt from bytes all
stand_none from bytes all none = none ∙ ap (λ (xs : List ℕ). take (length xs) (drop from all)) (sym none)

-- Equality

pub unlike_lengths : (xs ys : List ℕ) → (length xs ≡ length ys → ⊥) → false ≡ bytes_eq xs ys
unlike_lengths xs ys differ = sym (false_from_ne_true (bytes_eq xs ys) (λ same. differ (ap length ((bytes_eq-Decides xs ys).0 same))))

stand_whole : (xs ys : List ℕ) → xs ≡ ys → StandAt 0 xs ys
stand_whole xs ys same = same ∙ sym (take_all (length xs) ys (omega (arith, ap length same)))

pub unlike_first : (first rest all : List ℕ) → (StandAt 0 first all → ⊥) → false ≡ bytes_eq (first ++ rest) all
unlike_first first rest all differ =
    sym (false_from_ne_true (bytes_eq (first ++ rest) all)
    (λ same. differ (stand_first 0 first rest all (stand_whole (first ++ rest) all ((bytes_eq-Decides (first ++ rest) all).0 same)))))

pub like_rest : (r : Bool) (first rest all : List ℕ) → length (first ++ rest) ≡ length all → StandAt 0 first all → MatchBool r (StandAt (length first) rest all) (StandAt (length first) rest all → ⊥) → r ≡ bytes_eq (first ++ rest) all
like_rest true first rest all many here there =
    let place : length first ≡ 0 + length first = omega arith in
    let both = stand_both 0 first rest all here (subst (λ n. StandAt n rest all) place there) in
    sym ((bytes_eq-Decides (first ++ rest) all).1 (both ∙ take_all (length (first ++ rest)) all (omega (arith, many))))
like_rest false first rest all many here differ =
    let place : 0 + length first ≡ length first = omega arith in
    sym (false_from_ne_true (bytes_eq (first ++ rest) all)
    (λ same. differ (subst (λ n. StandAt n rest all) place (stand_second 0 first rest all (stand_whole (first ++ rest) all ((bytes_eq-Decides (first ++ rest) all).0 same))))))
