-- What a journal gains, and then gains beside.
use Rattle.std.proofs.Common.{◌≡◌, ℕ, List, [], ◌∷◌, ◌++◌, Option, None, Some, refl, sym, ap, subst, ◌∙◌, append_assoc}
use Rattle.nfs_core.specs.Lawful as lawful
use Rattle.nfs_core.specs.Server.{Server}
use Rattle.nfs_core.specs.declared.core_error.CoreError.{CoreError}
use Rattle.nfs_forms.specs.declared.open_owner.OpenOwner.{OpenOwner}
use Rattle.nfs_leases.specs.BookEvent.{BookEvent}
use Rattle.nfs_leases.specs.Sweeps.{ForgetsUnless, LeasedServer, Sweeps, entries_of_sweep, forgettings}
use Rattle.nfs_leases.specs.Visit.{Gains, with_entries}
use Rattle.nfs_leases.specs.declared.swept.Swept.{Swept}
use Rattle.nfs_state.specs.State.{History, State}
use Rattle.nfs_state.specs.Stored.{meaning}
use Rattle.nfs_state.specs.declared.entry.Entry.{Entry}

pub append-nil : {A : Type 0} (xs : List A) → xs ++ [] ≡ xs
append-nil [] = refl
append-nil (x ∷ xs) = ap (λ ys. x ∷ ys) (append-nil xs)

-- a journal that gains entries, and then others
entries_more : (more others : List Entry) (journal : History)
    → with_entries others (with_entries more journal) ≡ with_entries (more ++ others) journal
entries_more more others journal =
    ap (λ (es : List Entry). record journal { entries = es }) (append_assoc journal.entries more others)

entries_none : (journal : History) → with_entries [] journal ≡ journal
entries_none journal = ap (λ (es : List Entry). record journal { entries = es }) (append-nil journal.entries)

-- entries that lead to a state, and others that lead on from it
pub states_more : (journal : History) (old mid new : State) (more others : List Entry)
    → lawful.Leads journal old more mid → lawful.Leads (with_entries more journal) mid others new
    → lawful.Leads journal old (more ++ others) new
states_more journal old mid new [] others h k =
    subst (λ (s : State). lawful.Leads journal s others new) h
    (subst (λ (j : History). lawful.Leads j mid others new) (entries_none journal) k)
states_more journal old mid new (e ∷ more) others h k = (
  h.0,
  h.1,
  states_more (with_entries (e ∷ []) journal) h.0 mid new more others h.2
      (subst (λ (j : History). lawful.Leads j mid others new) (sym (entries_more (e ∷ []) more journal)) k),
)

pub gains_none : (server : Server) → Gains [] server server
gains_none server = record { journal = sym (entries_none server.journal); leads = refl }

pub gains_more : (more others : List Entry) (old mid new : Server)
    → Gains more old mid → Gains others mid new → Gains (more ++ others) old new
gains_more more others old mid new h k = record {
  journal =
      k.journal ∙ ap (λ (j : History). with_entries others j) h.journal ∙ entries_more more others old.journal;
  leads =
      states_more old.journal (meaning old.stored) (meaning mid.stored) (meaning new.stored) more others h.leads
      (subst (λ (j : History). lawful.Leads j (meaning mid.stored) others (meaning new.stored)) h.journal k.leads);
}

-- the last part of a sweep
pub gains_of_forgettings : (halted : Option CoreError) (now : ℕ)
    (owners : List OpenOwner) (stopped : Option CoreError) (old new : Server)
    → ForgetsUnless halted now owners stopped old new → Gains (forgettings now owners) old new
gains_of_forgettings (Some error) now owners stopped old new forgets =
    subst (λ (os : List OpenOwner). Gains (forgettings now os) old new) (sym forgets.0)
    (subst (λ (s : Server). Gains [] old s) (sym forgets.2) (gains_none old))
gains_of_forgettings None now owners stopped old new forgets = forgets.entries

-- In a sweep the journal gains the ends of clients, then those of delegations, and then those of open owners.
pub gains_of_sweep : {Book : Type 0} (happens : Book → BookEvent → Book → Type 0) (now : ℕ) (old : LeasedServer Book)
    (swept : Swept) (new : LeasedServer Book) (sweeps : Sweeps happens now old swept new)
    → Gains (entries_of_sweep now sweeps.visits sweeps.numbers sweeps.owners) old.core new.core
gains_of_sweep happens now old swept new sweeps =
    let forgets =
    gains_of_forgettings sweeps.halted now sweeps.owners swept.stopped sweeps.revoked new.core sweeps.forgets in
    gains_more _ _ old.core sweeps.ended new.core sweeps.ends.entries
    (gains_more _ _ sweeps.ended sweeps.revoked new.core sweeps.revokes.entries forgets)
