-- How an error of clap becomes one of the program.
use Rattle.std.proofs.Common.{◌≡◌, ◌∙◌, Bool, List, [], ◌∷◌, refl, true, false, true≢false, sym, ap, subst, inl, inr}
use Rattle.std.specs.Prelude.{◌⊎◌, Err, IfErr, IfOk, IsErrAnd, MatchResult, Ok, Result}
use Rattle.clap.specs.Words.{IsAmong, Text, fault_of, subcommand_of}
use Rattle.clap.specs.declared.error.kind.ErrorKind.{ErrorKind}
use Rattle.clap.specs.declared.error.kind.ErrorKind.TheVariants.{DisplayHelp, OutOfMemory}
use Rattle.nfs_options.specs.CommandLine.{Asks, AsksOnce, IsDeclined, IsDeclinedFor, IsMemoryOr, Lacks, program}
use Rattle.clap.proofs.OnLiterals.{clap_on_literals}
use Rattle.nfs_options.specs.declared.command_line.Subcommand.{Subcommand}
use Rattle.nfs_options.specs.declared.declined.Declined.{Declined}
use Rattle.nfs_options.specs.declared.declined.Declined.TheVariants as declined

-- the words are declined if clap accepts them, but a value that is given isn't enough
pub value_declined : (words : List Text) (d : Declined) → fault_of program words ≡ [] → IsMemoryOr (Lacks (subcommand_of program words)) d → IsDeclined words d
value_declined words declined.Memory e h = tt
value_declined words (declined.Help text) e h = absurd h
value_declined words (declined.Usage text) e h = inr (e, h)

abbrev is_memory : ErrorKind → Bool
is_memory OutOfMemory = true
is_memory _ = false

-- the words are declined if clap rejects them
pub words_declined : (words : List Text) (k : ErrorKind) (d : Declined) → (k ≡ OutOfMemory) ⊎ IsAmong k (fault_of program words) → IsDeclinedFor k d → IsDeclined words d
words_declined words k declined.Memory a h = tt
words_declined words k (declined.Help text) (inl e) h = absurd (true≢false (ap is_memory (sym e ∙ h)))
words_declined words k (declined.Help text) (inr a) h = subst (λ x. IsAmong x (fault_of program words)) h a
words_declined words k (declined.Usage text) (inl e) h = absurd (h.1 e)
words_declined words k (declined.Usage text) (inr a) h = inl (k, a, h.0)

pub weaker_fault : (P Q : Type 0) → (P → Q) → (d : Declined) → IsMemoryOr P d → IsMemoryOr Q d
weaker_fault P Q f declined.Memory h = tt
weaker_fault P Q f (declined.Help text) h = absurd h
weaker_fault P Q f (declined.Usage text) h = f h

-- `?` returns the error, so what holds for it still holds
pub passed_on : {T : Type 0} (r : Result T Declined) (P : Declined → Type 0) (d : Declined) → IsErrAnd r (λ e. e ≡ d) → P d → IfErr r P
passed_on (Ok x) P d is h = absurd is
passed_on (Err e) P d is h = subst P (sym is) h

no_words_fault : (name : Text) → fault_of program (name ∷ []) ≡ []
unfolding clap_on_literals
no_words_fault name = refl

-- the program's name alone is declined only if memory runs out
pub bare_declined : (words : List Text) (d : Declined) (name : Text) → IsDeclined words d → words ≡ name ∷ [] → d ≡ declined.Memory
bare_declined words d name h e = go d (subst (λ ws. IsDeclined ws d) e h)
  where
    among : (k : ErrorKind) → IsAmong k (fault_of program (name ∷ [])) → ⊥
    among k h = subst (IsAmong k) (no_words_fault name) h

    go : (d : Declined) → IsDeclined (name ∷ []) d → d ≡ declined.Memory
    go declined.Memory h = refl
    go (declined.Help text) h = absurd (among DisplayHelp h)
    go (declined.Usage text) (inl h) = absurd (among h.0 h.1)
    go (declined.Usage text) (inr (e, h)) = absurd h

pub bare : (words : List Text) (r : Result Subcommand Declined) (name : Text) → IfOk r (Asks words) → IfErr r (IsDeclined words) → words ≡ name ∷ []
    → MatchResult r (AsksOnce []) (λ d. d ≡ declined.Memory)
bare words (Ok s) name asked refused e = (subst (λ ws. Asks ws s) e asked).1
bare words (Err d) name asked refused e = bare_declined words d name refused e
