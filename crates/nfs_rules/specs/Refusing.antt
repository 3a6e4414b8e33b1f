-- Refusals in their order: the first one that holds is the answer.
use Rattle.std.specs.Prelude.{Bool, List, [], ◌∷◌, Result, Ok, Err, if◌then◌else◌}
use Rattle.nfs_forms.specs.declared.status.Refusal.{Refusal}

-- the first refusal, if there is one, and otherwise what follows
infixl 10 ◌>>=◌
abbrev pub ◌>>=◌ : {A B : Type 0} → Result A Refusal → (A → Result B Refusal) → Result B Refusal
(Err refusal) >>= next = Err refusal
(Ok a) >>= next = next a

-- this refusal where the test holds
abbrev pub refused_if : {A : Type 0} → Bool → Refusal → A → Result A Refusal
refused_if test refusal a = if test then Err refusal else Ok a

-- the refusal beside the first test that holds, and otherwise this
abbrev pub first_refusal : {A : Type 0} → List (Bool × Refusal) → A → Result A Refusal
first_refusal [] a = Ok a
first_refusal ((test, refusal) ∷ more) a = if test then Err refusal else first_refusal more a
