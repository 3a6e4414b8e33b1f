-- Marks of slots, while records are looked at: those of the records that were, beside those that come.
use Rattle.std.proofs.Common.{◌≡◌, ℕ, ◌<◌, Bool, true, false, not, cond, ◌==◌, ◌||◌, List, ◌∷◌, length, replicate, slice_set, refl, sym, ap, ◌∙◌, subst, arith}
use Rattle.std.specs.Prelude.{slice_index_or}
use Rattle.std.specs.List.{list_any}
use Rattle.std.proofs.lemmas.Grind.{common_steps}
use Rattle.nfs_owners.specs.Choice.{MarksSlots, has_slot}
use Rattle.nfs_owners.specs.Registry.{is_of, without_id}
use Rattle.nfs_owners.specs.Slots.{slot_of}
use Rattle.nfs_owners.specs.declared.client_record.ClientRecord.{ClientRecord}
use Rattle.nfs_owners.specs.declared.slots.TheConstants.{SLOTS}

-- with the marks of the rest, the slots that pass the test are marked
abbrev pub MarksWith : (ℕ → Bool) → (ℕ → Bool) → List Bool → Type 0
MarksWith rest test marks = (length marks ≡ SLOTS) × ((slot : ℕ) → slot < SLOTS → (slice_index_or marks slot false || rest slot) ≡ test slot)

set_at : (marks : List Bool) (place slot : ℕ) → place < length marks → slice_index_or (slice_set marks place true) slot false ≡ (slice_index_or marks slot false || (place == slot))
set_at marks place slot low = grind (arith, common_steps)

length_set : (marks : List Bool) (place : ℕ) → length (slice_set marks place true) ≡ length marks
length_set marks place = grind (arith, common_steps)

or_assoc : (a b c : Bool) → ((a || b) || c) ≡ (a || (b || c))
or_assoc true b c = refl
or_assoc false b c = refl

or_nothing : (a : Bool) → (a || false) ≡ a
or_nothing true = refl
or_nothing false = refl

-- a slot is marked
pub marks_more : (rest test : ℕ → Bool) (marks : List Bool) (place : ℕ) → place < SLOTS → MarksWith (λ slot. (place == slot) || rest slot) test marks → MarksWith rest test (slice_set marks place true)
marks_more rest test marks place below so_far = (
  length_set marks place ∙ so_far.0,
  λ slot low.
      ap (λ mark. mark || rest slot) (set_at marks place slot (omega (arith, so_far.0, below)))
      ∙ or_assoc (slice_index_or marks slot false) (place == slot) (rest slot)
      ∙ so_far.1 slot low,
)

-- at the end no more come
pub marks_all : (test : ℕ → Bool) (marks : List Bool) → MarksWith (λ slot. false) test marks → MarksSlots test marks
marks_all test marks so_far = (so_far.0, λ slot low. sym (or_nothing (slice_index_or marks slot false)) ∙ so_far.1 slot low)

none_marked : (n slot : ℕ) → slice_index_or (replicate n false) slot false ≡ false
none_marked n slot = grind (arith, common_steps)

-- at first no slot is marked
pub marks_none : (test : ℕ → Bool) → MarksWith test test (replicate SLOTS false)
marks_none test = (refl, λ slot low. ap (λ mark. mark || test slot) (none_marked SLOTS slot))

-- the slots of records
abbrev pub slots_of : List ClientRecord → ℕ → Bool
slots_of records slot = list_any (has_slot slot) records

-- one more record is looked at
pub marks_next : (r : ClientRecord) (left rest : List ClientRecord) (test : ℕ → Bool) (marks : List Bool) (place : ℕ) → left ≡ r ∷ rest → place ≡ slot_of r.state.client.number → MarksWith (slots_of left) test marks
    → MarksWith (slots_of rest) test (slice_set marks place true)
marks_next r left rest test marks place first is so_far =
    marks_more (slots_of rest) test marks place (omega (arith, is))
    (subst (λ p. MarksWith (λ slot. (p == slot) || slots_of rest slot) test marks) (sym is) (subst (λ records. MarksWith (slots_of records) test marks) first so_far))

-- of the records with other ids the first comes next, or is passed over

pub other_next : (id : List ℕ) (r : ClientRecord) (rest : List ClientRecord) → is_of id r ≡ false → without_id id (r ∷ rest) ≡ r ∷ without_id id rest
other_next id r rest other = ap (λ b. cond (not b) (r ∷ without_id id rest) (without_id id rest)) other

pub own_next : (id : List ℕ) (r : ClientRecord) (rest : List ClientRecord) → is_of id r ≡ true → without_id id (r ∷ rest) ≡ without_id id rest
own_next id r rest own = ap (λ b. cond (not b) (r ∷ without_id id rest) (without_id id rest)) own
