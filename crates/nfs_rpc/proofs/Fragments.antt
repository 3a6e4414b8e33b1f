-- A text is read as fragments and records in only one way.
use Rattle.std.proofs.Common.{◌≡◌, ℕ, ◌+◌, ◌≤◌, Bool, true, false, List, [], ◌∷◌, ◌++◌, length, refl, sym, ◌∙◌, ap, subst, inl, inr, ◌⊎◌, arith, append_assoc, length-append}
use Rattle.std.proofs.lemmas.List.{append-nil}
use Rattle.std.specs.List.{concat}
use Rattle.nfs_rpc.specs.declared.records.TheConstants.{RECORD_LIMIT}
use Rattle.nfs_rpc.specs.Records.{IsHeader, IsFragment, AreOpen, IsRecord, AreRecords}

-- two equal lists, each in two parts, have equal parts if the first parts have the same length
pub append_same : (a b c d : List ℕ) → a ++ b ≡ c ++ d → length a ≡ length c → (a ≡ c) × (b ≡ d)
append_same [] b [] d e h = (refl, e)
append_same [] b (y ∷ c) d e h = absurd (omega arith)
append_same (x ∷ a) b [] d e h = absurd (omega arith)
append_same (x ∷ a) b (y ∷ c) d e h =
    let heads : x ≡ y = cc in
    let tails : a ++ b ≡ c ++ d = cc in
    let rest = append_same a b c d tails (omega arith) in
    let firsts : a ≡ c = rest.0 in
    (cc, rest.1)

-- a header has only one meaning
pub IsHeader-same : (last last' : Bool) (n n' : ℕ) (h : List ℕ) → IsHeader last n h → IsHeader last' n' h → (last ≡ last') × (n ≡ n')
IsHeader-same true true n n' h a b = (refl, omega (arith, a.number, b.number))
IsHeader-same false false n n' h a b = (refl, omega (arith, a.number, b.number))
IsHeader-same true false n n' h a b = absurd (omega (arith, a.number, b.number, b.fits))
IsHeader-same false true n n' h a b = absurd (omega (arith, a.number, b.number, a.fits))

-- a header and a fragment at the same place: the header is that of the fragment
pub IsFragment-header : (last last' : Bool) (n : ℕ) (h x body f t : List ℕ) → IsHeader last n h → IsFragment last' body f → h ++ x ≡ f ++ t
    → (last ≡ last') × (n ≡ length body) × (x ≡ body ++ t)
IsFragment-header last last' n h x body f t a b e =
    let whole : h ++ x ≡ b.0 ++ (body ++ t) = e ∙ ap (λ l. l ++ t) b.2 ∙ append_assoc b.0 body t in
    let parts = append_same h x b.0 (body ++ t) whole (a.four ∙ sym b.1.four) in
    let a' : IsHeader last n b.0 = subst (λ l. IsHeader last n l) parts.0 a in
    let same = IsHeader-same last last' n (length body) b.0 a' b.1 in
    (same.0, same.1, parts.1)

pub length-fragment : (last : Bool) (body f : List ℕ) → IsFragment last body f → length f ≡ 4 + length body
length-fragment last body f a =
    let whole : length f ≡ length a.0 + length body = ap length a.2 ∙ length-append a.0 body in
    let four = a.1.four in
    omega arith

-- two fragments at the same place are equal
pub IsFragment-same : (last last' : Bool) (body body' f f' t t' : List ℕ) → IsFragment last body f → IsFragment last' body' f' → f ++ t ≡ f' ++ t'
    → (last ≡ last') × (body ≡ body') × (t ≡ t')
IsFragment-same last last' body body' f f' t t' a b e =
    let whole : a.0 ++ (body ++ t) ≡ f' ++ t' = sym (append_assoc a.0 body t) ∙ ap (λ l. l ++ t) (sym a.2) ∙ e in
    let same = IsFragment-header last last' (length body) a.0 (body ++ t) body' f' t' a.1 b whole in
    let parts = append_same body t body' t' same.2 same.1 in
    (same.0, parts.0, parts.1)

-- a fragment that isn't the last, put in front of a record, makes a longer record
pub IsRecord-open : (body f m t : List ℕ) → IsFragment false body f → IsRecord m t → IsRecord (body ++ m) (f ++ t)
IsRecord-open body f m t a r = (
  body ∷ r.0,
  r.1,
  ap (λ l. body ++ l) r.2 ∙ sym (append_assoc body (concat r.0) r.1),
  (
    f ++ r.3.0,
    r.3.1,
    ap (λ l. f ++ l) r.3.2 ∙ sym (append_assoc f r.3.0 r.3.1),
    (f, r.3.0, refl, a, r.3.3),
    r.3.4,
  ),
)

pub IsRecord-last : (body f : List ℕ) → IsFragment true body f → IsRecord body f
IsRecord-last body f a = ([], body, refl, ([], f, refl, refl, a))

-- the text begins with a fragment that isn't the last of its record, and the rest of this record follows
abbrev pub Opened : List ℕ → List ℕ → Type 0
Opened m text =
    (body : List ℕ) × (f : List ℕ) × (inner : List ℕ) × (t : List ℕ)
    × (text ≡ f ++ t) × IsFragment false body f × IsRecord inner t × (m ≡ body ++ inner)

cases_of : (bodies : List (List ℕ)) (body front back m text : List ℕ) → text ≡ front ++ back → AreOpen bodies front → IsFragment true body back → m ≡ concat bodies ++ body
    → IsFragment true m text ⊎ Opened m text
cases_of [] body front back m text e o a is =
    let same : text ≡ back = e ∙ ap (λ l. l ++ back) o in
    inl (subst (λ l. IsFragment true l text) (sym is) (subst (λ l. IsFragment true body l) (sym same) a))
cases_of (b ∷ bs) body front back m text e o a is =
    inr (
      b,
      o.0,
      concat bs ++ body,
      o.1 ++ back,
      e ∙ ap (λ l. l ++ back) o.2 ∙ append_assoc o.0 o.1 back,
      o.3,
      (bs, body, refl, (o.1, back, refl, o.4, a)),
      is ∙ append_assoc b (concat bs) body,
    )

pub IsRecord-cases : (m text : List ℕ) → IsRecord m text → IsFragment true m text ⊎ Opened m text
IsRecord-cases m text r = cases_of r.0 r.1 r.3.0 r.3.1 m text r.3.2 r.3.3 r.3.4 r.2

-- A record's text begins with a fragment whose body is no longer than the record.
pub IsRecord-head : (m text : List ℕ) → IsRecord m text
    → (last : Bool) × (body : List ℕ) × (f : List ℕ) × (t : List ℕ) × (text ≡ f ++ t) × IsFragment last body f × (length body ≤ length m)
IsRecord-head m text r = elim (IsRecord-cases m text r) [
  | inl a ↦ (true, m, text, [], sym (append-nil text), a, omega arith)
  | inr o ↦ (false, o.0, o.1, o.3, o.4, o.5, rw o.7 (rw length-append (omega arith)))
]

-- If a record begins with these open fragments, the rest of the record follows them.
pub IsRecord-beyond : (bodies : List (List ℕ)) (front back m f t : List ℕ) → AreOpen bodies front → IsRecord m f → front ++ back ≡ f ++ t
    → (inner : List ℕ) × (g : List ℕ) × IsRecord inner g × (back ≡ g ++ t) × (m ≡ concat bodies ++ inner)
IsRecord-beyond [] front back m f t o r e = (m, f, r, ap (λ l. l ++ back) (sym o) ∙ e, refl)
IsRecord-beyond (b ∷ bs) front back m f t o r e =
    let first : o.0 ++ (o.1 ++ back) ≡ f ++ t = sym (append_assoc o.0 o.1 back) ∙ ap (λ l. l ++ back) (sym o.2) ∙ e in
    elim (IsRecord-cases m f r) [
      | inl a ↦ let same = IsFragment-same false true b m o.0 f (o.1 ++ back) t o.3 a first in absurd (let no : false ≡ true = same.0 in cc)
      | inr w ↦
          let split : o.0 ++ (o.1 ++ back) ≡ w.1 ++ (w.3 ++ t) = first ∙ ap (λ l. l ++ t) w.4 ∙ append_assoc w.1 w.3 t in
          let same = IsFragment-same false false b w.0 o.0 w.1 (o.1 ++ back) (w.3 ++ t) o.3 w.5 split in
          let more = IsRecord-beyond bs o.1 back w.2 w.3 t o.4 w.6 same.2 in
          (more.0, more.1, more.2, more.3, w.7 ∙ ap (λ l. l ++ w.2) (sym same.1) ∙ ap (λ l. b ++ l) more.4 ∙ sym (append_assoc b (concat bs) more.0))
    ]

-- Two records at the front of the same text are equal.
pub IsRecord-same : (m m' f f' t t' : List ℕ) → IsRecord m f → IsRecord m' f' → f ++ t ≡ f' ++ t' → (m ≡ m') × (t ≡ t')
IsRecord-same m m' f f' t t' r s e =
    let whole : r.3.0 ++ (r.3.1 ++ t) ≡ f' ++ t' = sym (append_assoc r.3.0 r.3.1 t) ∙ ap (λ l. l ++ t) (sym r.3.2) ∙ e in
    let w = IsRecord-beyond r.0 r.3.0 (r.3.1 ++ t) m' f' t' r.3.3 s whole in
    elim (IsRecord-cases w.0 w.1 w.2) [
      | inl a ↦
          let same = IsFragment-same true true r.1 w.0 r.3.1 w.1 t t' r.3.4 a w.3 in
          (r.2 ∙ ap (λ l. concat r.0 ++ l) same.1 ∙ sym w.4, same.2)
      | inr o ↦
          let split : r.3.1 ++ t ≡ o.1 ++ (o.3 ++ t') = w.3 ∙ ap (λ l. l ++ t') o.4 ∙ append_assoc o.1 o.3 t' in
          let same = IsFragment-same true false r.1 o.0 r.3.1 o.1 t (o.3 ++ t') r.3.4 o.5 split in
          absurd (let no : true ≡ false = same.0 in cc)
    ]

-- In one text two runs of open fragments, the second followed by a header: the header belongs to the first run, or
-- comes after it.
pub AreOpen-header : (bodies others : List (List ℕ)) (front back front' header rest : List ℕ) (last : Bool) (len : ℕ)
    → AreOpen bodies front → AreOpen others front' → IsHeader last len header → front ++ back ≡ front' ++ (header ++ rest)
    → (length (concat others) + len ≤ length (concat bodies))
    ⊎ ((more : List (List ℕ)) × (middle : List ℕ) × AreOpen more middle × (back ≡ middle ++ (header ++ rest)) × (length (concat others) ≡ length (concat bodies) + length (concat more)))
AreOpen-header [] others front back front' header rest last len o p h e =
    inr (others, front', p, ap (λ l. l ++ back) (sym o) ∙ e, omega arith)
AreOpen-header (b ∷ bs) [] front back front' header rest last len o p h e =
    let split : header ++ rest ≡ o.0 ++ (o.1 ++ back) =
    ap (λ l. l ++ (header ++ rest)) (sym p) ∙ sym e ∙ ap (λ l. l ++ back) o.2 ∙ append_assoc o.0 o.1 back in
    let same = IsFragment-header last false len header rest b o.0 (o.1 ++ back) h o.3 split in
    inl (let n : len ≡ length b = same.1 in rw length-append (omega arith))
AreOpen-header (b ∷ bs) (c ∷ cs) front back front' header rest last len o p h e =
    let split : o.0 ++ (o.1 ++ back) ≡ p.0 ++ (p.1 ++ (header ++ rest)) =
    sym (append_assoc o.0 o.1 back) ∙ ap (λ l. l ++ back) (sym o.2) ∙ e ∙ ap (λ l. l ++ (header ++ rest)) p.2 ∙ append_assoc p.0 p.1 (header ++ rest) in
    let same = IsFragment-same false false b c o.0 p.0 (o.1 ++ back) (p.1 ++ (header ++ rest)) o.3 p.3 split in
    let eq : length b ≡ length c = ap length same.1 in
    let long_b = length-append b (concat bs) in
    let long_c = length-append c (concat cs) in
    elim (AreOpen-header bs cs o.1 back p.1 header rest last len o.4 p.4 h same.2) [
      | inl short ↦ inl (omega arith)
      | inr w ↦ inr (w.0, w.1, w.2, w.3, let is = w.4 in omega arith)
    ]

-- one more open fragment at the end
pub AreOpen-push : (bodies : List (List ℕ)) (front body f : List ℕ) → AreOpen bodies front → IsFragment false body f → AreOpen (bodies ++ body ∷ []) (front ++ f)
AreOpen-push [] front body f o a = (f, [], ap (λ l. l ++ f) o ∙ sym (append-nil f), a, refl)
AreOpen-push (b ∷ bs) front body f o a =
    (o.0, o.1 ++ f, ap (λ l. l ++ f) o.2 ∙ append_assoc o.0 o.1 f, o.3, AreOpen-push bs o.1 body f o.4 a)

-- one more record at the end
pub AreRecords-push : (messages : List (List ℕ)) (front m f : List ℕ) → AreRecords messages front → IsRecord m f → length m ≤ RECORD_LIMIT
    → AreRecords (messages ++ m ∷ []) (front ++ f)
AreRecords-push [] front m f o r fits = (fits, (f, [], ap (λ l. l ++ f) o ∙ sym (append-nil f), r, refl))
AreRecords-push (n ∷ ns) front m f o r fits =
    (o.0, (o.1.0, o.1.1 ++ f, ap (λ l. l ++ f) o.1.2 ∙ append_assoc o.1.0 o.1.1 f, o.1.3, AreRecords-push ns o.1.1 m f o.1.4 r fits))
