-- The delegations of a file (RFC 7530, section 10.4), beside its opens.
use Rattle.std.specs.Prelude.{⊤, ℕ, ◌<◌, ◌≤◌, ◌+◌, Bool, true, false, ◌&&◌, ◌||◌, ◌==◌, nat_le, nat_lt, not, if◌then◌else◌, List, [], ◌∷◌, filter, find, map, Option, Some, None, is_none, IsFalse, IsTrue}
use Rattle.std.specs.List.{AllByRecursion, Contains, list_any}
use Rattle.nfs_forms.specs.ClientId.{is_same_client}
use Rattle.nfs_forms.specs.declared.client_id.ClientId.{ClientId}
use Rattle.nfs_forms.specs.declared.stateid.Stateid.{Stateid}
use Rattle.nfs_share.specs.declared.delegation.Delegation.{Delegation}
use Rattle.nfs_share.specs.declared.delegation.DelegationKind.{DelegationKind}
use Rattle.nfs_share.specs.declared.delegation.DelegationKind.TheVariants as kinds
use Rattle.nfs_share.specs.declared.delegation.FileUse.{FileUse}
use Rattle.nfs_share.specs.declared.delegation.FileUse.TheVariants as uses
use Rattle.nfs_share.specs.declared.open_state.OpenState.{OpenState}
use Rattle.nfs_share.specs.Opens.{is_of_client, share_of}

-- Which uses of a file a delegation of a kind is in the way of: another client's, and those by a special stateid,
-- whoever sends it.
--
--                     open                                    read delegation   write delegation   READ   WRITE
--   read delegation   where it may write, or denies reading   no                yes                no     yes
--   write delegation  yes                                     yes               yes                yes    yes
abbrev pub is_in_way : DelegationKind → FileUse → Bool
is_in_way kinds.Write file_use = true
is_in_way kinds.Read (uses.Open client share) = share.access.write || share.deny.read
is_in_way kinds.Read (uses.Delegation client kinds.Read) = false
is_in_way kinds.Read (uses.Delegation client kinds.Write) = true
is_in_way kinds.Read (uses.Special modes) = modes.write

-- the client has the delegation
abbrev pub is_lent_to : ClientId → Delegation → Bool
is_lent_to client d = is_same_client d.client client

-- The delegation is that of the client whose use it is. A special stateid is no client's.
abbrev pub is_of_user : FileUse → Delegation → Bool
is_of_user (uses.Open client share) d = is_lent_to client d
is_of_user (uses.Delegation client kind) d = is_lent_to client d
is_of_user (uses.Special modes) d = false

-- The delegation is in the way of this use of the file. It never is in the way of the client that has it.
abbrev pub conflicts : FileUse → Delegation → Bool
conflicts file_use d = not (is_of_user file_use d) && is_in_way d.kind file_use

-- a delegation is in the way of this use of the file
abbrev pub has_conflict : FileUse → List Delegation → Bool
has_conflict file_use ds = list_any (conflicts file_use) ds

-- the delegation's stateid has this number
abbrev pub is_delegation_numbered : ℕ → Delegation → Bool
is_delegation_numbered number d = d.number == number

-- the stateid is one of the delegation's, no matter its seqid
abbrev pub is_stateid_of_delegation : Stateid → Delegation → Bool
is_stateid_of_delegation stateid d =
    is_lent_to stateid.client d && is_delegation_numbered stateid.number d

-- the delegation's stateid, whose seqid never changes
abbrev pub delegation_stateid : Delegation → Stateid
delegation_stateid d = record { seqid = 1; client = d.client; number = d.number }

-- the delegation that the stateid names, if there is one
abbrev pub delegation_named_by : Stateid → List Delegation → Option Delegation
delegation_named_by stateid ds = find (is_stateid_of_delegation stateid) ds

-- the delegation with this number, if there is one
abbrev pub delegation_with_number : ℕ → List Delegation → Option Delegation
delegation_with_number number ds = find (is_delegation_numbered number) ds

-- the client has a delegation
abbrev pub has_delegation : ClientId → List Delegation → Bool
has_delegation client ds = list_any (is_lent_to client) ds

-- a moment that lies more than the lease before now
abbrev pub is_lease_before : ℕ → ℕ → Option ℕ → Bool
is_lease_before lease now None = false
is_lease_before lease now (Some moment) = nat_lt (moment + lease) now

-- The delegation was called back, and more than a lease has passed since.
abbrev pub is_due : ℕ → ℕ → Delegation → Bool
is_due lease now d = is_lease_before lease now d.recalled

-- the delegation, called back at the moment if it wasn't before
abbrev pub with_recall : ℕ → Delegation → Delegation
with_recall moment d = if is_none d.recalled then record d { recalled = Some moment } else d

-- The delegations after the call back of each that is in the way of this use of the file.
abbrev pub with_recalls : FileUse → ℕ → List Delegation → List Delegation
with_recalls file_use moment ds =
    map (λ d. if conflicts file_use d then with_recall moment d else d) ds

-- the delegations without those that pass the test
abbrev pub without_lent : (Delegation → Bool) → List Delegation → List Delegation
without_lent test ds = filter (λ d. not (test d)) ds

-- the delegation as it is lent to the client
abbrev pub first_delegation : ClientId → DelegationKind → ℕ → Delegation
first_delegation client kind number =
    record { client = client; kind = kind; number = number; recalled = None }

-- A delegation of this kind to the client would be in the way of an open of another client.
abbrev pub bars : ClientId → DelegationKind → List OpenState → Bool
bars client kind opens =
    list_any (λ o. not (is_of_client client o)
    && is_in_way kind (uses.Open o.owner.client (share_of o))) opens

-- A delegation of this kind to the client would be in no open's way, and no delegation is in its way. The client has no
-- other of the file.
abbrev pub can_delegate : ClientId → DelegationKind → List OpenState → List Delegation → Bool
can_delegate client kind opens ds =
    not (bars client kind opens) && not (has_delegation client ds)
    && not (has_conflict (uses.Delegation client kind) ds)

-- each delegation has a lower number than those that come after it
abbrev pub StandInOrder : List Delegation → Type 0
StandInOrder [] = ⊤
StandInOrder (d ∷ ds) = AllByRecursion (λ e. d.number < e.number) ds × StandInOrder ds

-- each delegation has a lower number
abbrev pub IsAboveLent : ℕ → List Delegation → Type 0
IsAboveLent number ds = AllByRecursion (λ d. d.number < number) ds

-- of two, of which there may be none, the one with the lesser number
abbrev pub lesser : {X : Type 0} → (X → ℕ) → Option X → Option X → Option X
lesser number None b = b
lesser number (Some a) None = Some a
lesser number (Some a) (Some b) = if nat_lt (number b) (number a) then Some b else Some a

-- Of the delegations that are due, this is one with the least number; or there are none.
abbrev pub IsNextDueOf : ℕ → ℕ → List Delegation → Option Delegation → Type 0
IsNextDueOf lease now ds None = AllByRecursion (λ d. IsFalse (is_due lease now d)) ds
IsNextDueOf lease now ds (Some next) = Contains ds next
    × IsTrue (is_due lease now next)
    × AllByRecursion (λ d. IsTrue (is_due lease now d) → next.number ≤ d.number) ds
