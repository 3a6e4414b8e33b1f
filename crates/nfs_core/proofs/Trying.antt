-- A try to forget an owner or to take away a delegation: an entry that may come next, or nothing.
use Rattle.std.proofs.Common.{◌≡◌, ℕ, ◌<◌, false, Option, Some, None, Result, Ok, Err, List, [], ◌∷◌, length, refl, subst, sym, arith}
use Rattle.std.specs.Prelude.{IfOk, OnErr}
use Rattle.std.specs.List.{AllByRecursion}
use Rattle.nfs_core.specs.Events.{IsForgottenFrom, IsRevoked, forget_of, path_of, revoke_of}
use Rattle.nfs_core.specs.Server.{AreAlike, Enters, Server}
use Rattle.nfs_core.specs.declared.core_error.CoreError.{CoreError}
use Rattle.nfs_core.specs.declared.core_error.CoreError.TheVariants.{Memory}
use Rattle.nfs_core.specs.declared.forgotten.Forgotten.{Forgotten}
use Rattle.nfs_rules.specs.entries.Forget.{NoneIdleBefore, is_idle}
use Rattle.nfs_state.specs.Entries.{call_of}
use Rattle.nfs_state.specs.Owners.{KnownOwner}
use Rattle.nfs_state.specs.State.{History, State}
use Rattle.nfs_state.specs.declared.entry.Entry.{Entry}
use Rattle.nfs_state.specs.declared.entry.Entry.TheVariants as entries

-- an entry that is no call was entered, or nothing was
pub record Tried (old new : Server) : Type 0 where
  pub entry : Entry
  pub result : Result ℕ CoreError
  pub entered : IfOk result (λ number. Enters old new entry number)
  pub same : OnErr result (AreAlike old new)
  pub other : call_of entry ≡ None

nothing : (old new : Server) → AreAlike old new → Tried old new
nothing old new alike = record { entry = entries.Path (path_of 0 false); result = Err Memory; entered = tt; same = alike; other = refl }

pub tried : (old new : Server) (now : ℕ) (result : Result (Option Forgotten) CoreError) → IfOk result (IsForgottenFrom old new now) → OnErr result (AreAlike old new) → Tried old new
tried old new now (Ok None) forgotten same = nothing old new (subst (AreAlike old) (sym forgotten) (refl, refl, refl))
tried old new now (Ok (Some f)) forgotten same = record {
  entry = entries.Forget (forget_of forgotten.0.0 now);
  result = Ok f.number;
  entered = forgotten.0.1;
  same = tt;
  other = refl;
}
tried old new now (Err error) forgotten same = nothing old new same

pub tried_revocation : (old new : Server) (now : ℕ) (result : Result (Option ℕ) CoreError) → IfOk result (IsRevoked old new now) → OnErr result (AreAlike old new) → Tried old new
tried_revocation old new now (Ok None) revoked same = nothing old new (subst (AreAlike old) (sym revoked) (refl, refl, refl))
tried_revocation old new now (Ok (Some number)) revoked same = record {
  entry = entries.Revoke (revoke_of number now);
  result = Ok (length old.journal.entries);
  entered = revoked;
  same = tt;
  other = refl;
}
tried_revocation old new now (Err error) revoked same = nothing old new same

-- no entry is before the first
pub none_before_first : (journal : History) (state : State) (now : ℕ) → NoneIdleBefore 0 journal state now
none_before_first journal state now = each state.owners
  where
    each : (owners : List KnownOwner) → AllByRecursion (λ o. o.recording_entry < 0 → is_idle journal state now o ≡ false) owners
    each [] = tt
    each (o ∷ owners) = (λ less. absurd (omega (arith, less)), each owners)
