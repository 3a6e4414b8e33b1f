-- Linked lists: the laws of reading and encoding them.
use Rattle.std.proofs.Common.{◌≡◌, ℕ, zero, suc, ◌<◌, Bool, true, false, Option, Some, None, List, [], ◌∷◌, ◌++◌, length, Ok, refl, ap, subst, ◌∙◌, append_assoc, arith}
use Rattle.std.proofs.lemmas.List.{length-append}
use Rattle.std.specs.List.{All, flat_map}
use Rattle.xdr.specs.Layout.{Flag, Link, Chain}
use Rattle.xdr.specs.Reading.{Read, Reads, Begins, flag_at, link_of, link_at, or_end, chain_below, chain_at}
use Rattle.xdr.specs.Writing.{written_flag, written_link, written_chain}
use Rattle.xdr.specs.laws.Reads.{bind_ok, ok_is, Begins-then, as_value_gives, reads_flag}
use Rattle.xdr.specs.laws.Spells.{flag_is_encoded}

-- Of a link.
link_sound_of : {A : Type 0} (P : A → List ℕ → Type 0) (f : List ℕ → Read A)
    → Reads P f → (more : Bool) (bytes mid : List ℕ) (y : Option A × List ℕ) → Begins (Flag more) bytes mid
    → link_of f more mid ≡ Ok y → Begins (Link P y.0) bytes y.1
link_sound_of {A = A} P f law true bytes mid y begins e =
    as_value_gives f Some (λ (y : Option A × List ℕ). Begins (Link P y.0) bytes y.1) mid
    (λ x g. Begins-then (Flag true) (P x.0) bytes mid x.1 begins (law.sound mid x.0 x.1 g)) y e
link_sound_of {A = A} P f law false bytes mid y begins e =
    subst (λ (y : Option A × List ℕ). Begins (Link P y.0) bytes y.1) (ok_is (None, mid) y e) begins

link_sound : {A : Type 0} (P : A → List ℕ → Type 0) (f : List ℕ → Read A)
    → Reads P f → (bytes : List ℕ) (y : Option A × List ℕ) → link_at f bytes ≡ Ok y → Begins (Link P y.0) bytes y.1
unfolding link_at
link_sound P f law bytes y e =
    let more = bind_ok (flag_at bytes) (λ more. link_of f more.0 more.1) y e in
    link_sound_of P f law more.0.0 bytes more.0.1 y (reads_flag.sound bytes more.0.0 more.0.1 more.1) more.2

link_complete : {A : Type 0} (P : A → List ℕ → Type 0) (f : List ℕ → Read A) → Reads P f
    → (link : Option A) (front rest : List ℕ) → Link P link front → link_at f (front ++ rest) ≡ Ok (link, rest)
unfolding link_at
link_complete P f law None front rest h = rw (reads_flag.complete false front rest h) refl
link_complete P f law (Some value) front rest h =
    let regrouped : front ++ rest ≡ h.0 ++ (h.1 ++ rest) =
    ap (λ (x : List ℕ). x ++ rest) h.2 ∙ append_assoc h.0 h.1 rest in
    rw (regrouped, reads_flag.complete true h.0 (h.1 ++ rest) h.3, law.complete value h.1 rest h.4) refl

-- Of the values behind a link.
end_sound : {A : Type 0} (P : A → List ℕ → Type 0) (more : List ℕ → Read (List A)) (link : Option A)
    (bytes mid : List ℕ) (y : List A × List ℕ)
    → ((x : List A × List ℕ) → more mid ≡ Ok x → Begins (Chain P x.0) mid x.1)
    → Begins (Link P link) bytes mid → or_end link more mid ≡ Ok y → Begins (Chain P y.0) bytes y.1
end_sound {A = A} P more None bytes mid y law begins e =
    subst (λ (y : List A × List ℕ). Begins (Chain P y.0) bytes y.1) (ok_is ([], mid) y e) begins
end_sound {A = A} P more (Some value) bytes mid y law begins e =
    as_value_gives more (λ values. value ∷ values) (λ (y : List A × List ℕ). Begins (Chain P y.0) bytes y.1) mid
    (λ x g. Begins-then (Link P (Some value)) (Chain P x.0) bytes mid x.1 begins (law x g)) y e

chain_sound : {A : Type 0} (P : A → List ℕ → Type 0) (f : List ℕ → Read A)
    → Reads P f → (most : ℕ) (bytes : List ℕ) (y : List A × List ℕ)
    → chain_below f most bytes ≡ Ok y → Begins (Chain P y.0) bytes y.1
unfolding chain_below
chain_sound P f law zero bytes y e = absurd cc
chain_sound P f law (suc most) bytes y e =
    let link = bind_ok (link_at f bytes) (λ link. or_end link.0 (chain_below f most) link.1) y e in
    end_sound P (chain_below f most) link.0.0 bytes link.0.1 y
    (chain_sound P f law most link.0.1) (link_sound P f law bytes link.0 link.1) link.2

chain_complete : {A : Type 0} (P : A → List ℕ → Type 0) (f : List ℕ → Read A)
    → Reads P f → (most : ℕ) (values : List A) (front rest : List ℕ) → length values < most → Chain P values front
    → chain_below f most (front ++ rest) ≡ Ok (values, rest)
unfolding chain_below
chain_complete P f law zero values front rest few h = absurd (omega (arith, few))
chain_complete P f law (suc most) [] front rest few h = rw (link_complete P f law None front rest h) refl
chain_complete P f law (suc most) (value ∷ values) front rest few h =
    let regrouped : front ++ rest ≡ h.0 ++ (h.1 ++ rest) =
    ap (λ (x : List ℕ). x ++ rest) h.2 ∙ append_assoc h.0 h.1 rest in
    rw (
      regrouped,
      link_complete P f law (Some value) h.0 (h.1 ++ rest) h.3,
      chain_complete P f law most values h.1 rest (omega (arith, few)) h.4,
    ) refl

-- Each value has a flag of four bytes in front of it, and so has the end.
chain_has_more_bytes : {A : Type 0} (P : A → List ℕ → Type 0) (values : List A) (front : List ℕ)
    → Chain P values front → length values < length front
chain_has_more_bytes P [] front h = omega (arith, h.0)
chain_has_more_bytes P (value ∷ values) front h =
    let link = h.3 in
    omega (
      arith,
      ap length h.2,
      length-append h.0 h.1,
      ap length link.2,
      length-append link.0 link.1,
      link.3.0,
      chain_has_more_bytes P values h.1 h.4,
    )

pub reads_chain : {A : Type 0} (P : A → List ℕ → Type 0) (f : List ℕ → Read A) → Reads P f
    → Reads (Chain P) (chain_at f)
unfolding chain_at
reads_chain P f law = record {
  sound = λ bytes values rest e. chain_sound P f law (length bytes) bytes (values, rest) e;
  complete = λ values front rest h.
      chain_complete P f law (length (front ++ rest)) values front rest
      (omega (arith, length-append front rest, chain_has_more_bytes P values front h)) h;
}

pub chain_is_encoded : {A : Type 0} (P : A → List ℕ → Type 0) (f : A → List ℕ) (Fits : A → Type 0)
    → ((value : A) → Fits value → P value (f value)) → (values : List A) → All Fits values
    → Chain P values (written_chain f values)
chain_is_encoded P f Fits law [] fits = flag_is_encoded false
chain_is_encoded P f Fits law (value ∷ values) fits = (
  written_link f value,
  written_chain f values,
  append_assoc (written_link f value) (flat_map (written_link f) values) (written_flag false),
  (written_flag true, f value, refl, flag_is_encoded true, law value (fits 0 value (omega arith))),
  chain_is_encoded P f Fits law values (λ k d lt. fits (suc k) d (omega (arith, lt))),
)
