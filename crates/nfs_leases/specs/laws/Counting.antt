-- How many clients a sweep ends, how many delegations it revokes, how many open owners it forgets, and how many entries
-- it makes.
use Rattle.std.proofs.Common.{◌≡◌, ℕ, ◌+◌, List, [], ◌∷◌, ◌++◌, length, refl, ap, arith, length-append}
use Rattle.std.proofs.lemmas.List.{length-map}
use Rattle.nfs_core.specs.Events.{expire_of}
use Rattle.nfs_forms.specs.declared.open_owner.OpenOwner.{OpenOwner}
use Rattle.nfs_leases.specs.BookEvent.{BookEvent, Look, Renew, Close, Open, Retire}
use Rattle.nfs_leases.specs.Sweeps.{entries_of_sweep, events_of_all, forgettings, none_swept, revocations, tally}
use Rattle.nfs_leases.specs.Visit.{Visit, events_by, events_of, expiries, with_case}
use Rattle.nfs_leases.specs.declared.visit_case.VisitCase.{VisitCase}
use Rattle.nfs_leases.specs.declared.visit_case.VisitCase.TheVariants as cases
use Rattle.nfs_leases.specs.declared.closing.Closing.TheVariants as closing
use Rattle.nfs_leases.specs.declared.swept.Swept.{Swept}
use Rattle.nfs_state.specs.declared.entry.Entry.{Entry}
use Rattle.nfs_state.specs.declared.entry.Entry.TheVariants as entries

-- the entries of what was asked of a book, and of what was asked after it
pub expiries_more : (events more : List BookEvent) → expiries (events ++ more) ≡ expiries events ++ expiries more
expiries_more [] more = refl
expiries_more (Look client shown ∷ events) more = expiries_more events more
expiries_more (Renew client moment answer ∷ events) more = expiries_more events more
expiries_more (Close client seen now closing.Closed ∷ events) more =
    ap (λ es. entries.Expire (expire_of client seen now) ∷ es) (expiries_more events more)
expiries_more (Close client seen now closing.Changed ∷ events) more = expiries_more events more
expiries_more (Open client moment ∷ events) more = expiries_more events more
expiries_more (Retire client ∷ events) more = expiries_more events more

-- each client that was counted as ended has its entry
expired_case : (case : VisitCase) (client seen now : ℕ) (swept : Swept)
    → (with_case swept case).expired ≡ swept.expired + length (expiries (events_by case client seen now))
expired_case cases.Expired client seen now swept = refl
expired_case cases.Kept client seen now swept = omega arith
expired_case cases.Changed client seen now swept = omega arith
expired_case cases.Refused client seen now swept = omega arith

-- In these visits as many clients were counted as ended as there are entries of ends.
pub expired_tally : (now : ℕ) (swept : Swept) (visits : List Visit)
    → (tally swept visits).expired ≡ swept.expired + length (expiries (events_of_all now visits))
expired_tally now swept [] = omega arith
expired_tally now swept (t ∷ visits) =
    let here = expired_case t.case t.client t.seen now swept in
    let rest = expired_tally now (with_case swept t.case) visits in
    let both = ap (λ (es : List Entry). length es) (expiries_more (events_of now t) (events_of_all now visits)) in
    omega (arith, here, rest, both, length-append (expiries (events_of now t)) (expiries (events_of_all now visits)))

-- each delegation that is revoked has its entry
pub revoked_entries : (now : ℕ) (numbers : List ℕ) → length (revocations now numbers) ≡ length numbers
revoked_entries now numbers = length-map numbers _

-- each owner that is forgotten has its entry
pub forgotten_entries : (now : ℕ) (owners : List OpenOwner) → length (forgettings now owners) ≡ length owners
forgotten_entries now owners = length-map owners _

-- A sweep that is counted so makes as many entries as clients ended, delegations were revoked and owners were
-- forgotten.
pub sweep_tally : (now : ℕ) (visits : List Visit) (numbers : List ℕ) (owners : List OpenOwner) (swept : Swept)
    → swept ≡ record (tally none_swept visits) {
      revoked = length numbers;
      forgotten = length owners;
      stopped = swept.stopped;
    }
    → swept.expired + swept.revoked + swept.forgotten ≡ length (entries_of_sweep now visits numbers owners)
sweep_tally now visits numbers owners swept counts =
    omega (
      arith,
      ap (λ (s : Swept). s.expired) counts,
      ap (λ (s : Swept). s.revoked) counts,
      ap (λ (s : Swept). s.forgotten) counts,
      expired_tally now none_swept visits,
      revoked_entries now numbers,
      forgotten_entries now owners,
      length-append (revocations now numbers) (forgettings now owners),
      length-append (expiries (events_of_all now visits)) (revocations now numbers ++ forgettings now owners),
    )
