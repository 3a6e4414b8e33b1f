use Rattle.std.proofs.Common.{◌≡◌, ℕ, ◌<◌, List, [], ◌∷◌, filter_map, Option, Some, None, IfSome, option_map, refl, arith}
use Rattle.std.specs.List.{All, AllByRecursion, AllPairs, cons_option}
use Rattle.std.proofs.lemmas.Bool.{cond_both}
use Rattle.std.proofs.lemmas.List.Elements.{All-cons, All-nil}
use Rattle.std.proofs.lemmas.List.Kept.{AllPairs-cons}
use Rattle.nfs_core.proofs.SafeFiles.{lists_at}
use Rattle.nfs_core.proofs.laws.recalls_rise.Goals as goal
use Rattle.nfs_core.specs.Recalls.{is_called_back, recall_for, recall_to, recalls_by}
use Rattle.nfs_owners.specs.Registry.{Registry, record_of, record_state}
use Rattle.nfs_owners.specs.declared.client_record.ClientState.{ClientState}
use Rattle.nfs_rpc.specs.declared.recall.Recall.{Recall}
use Rattle.nfs_share.specs.AllOpens.{delegations_of}
use Rattle.nfs_share.specs.Delegations.{StandInOrder}
use Rattle.nfs_share.specs.declared.delegation.Delegation.{Delegation}
use Rattle.nfs_share.specs.declared.delegation.FileUse.{FileUse}
use Rattle.nfs_state.specs.State.{State}
use Rattle.nfs_state.specs.declared.change.Change.{Change}
use Rattle.nfs_state.specs.declared.change.Change.TheVariants as changes

-- the number is below that of the recall's delegation
abbrev IsBelow : ℕ → Recall → Type 0
IsBelow number recall = number < recall.stateid.number

-- the first recall's delegation has the lower number
abbrev IsBefore : Recall → Recall → Type 0
IsBefore a b = IsBelow a.stateid.number b

-- the recall is of a delegation with this number
abbrev IsOf : ℕ → Recall → Type 0
IsOf number recall = recall.stateid.number ≡ number

none_rise : AllPairs IsBefore []
none_rise i j d before below = absurd (omega (arith, before, below))

-- one recall more before others, or none

one_above : (low number : ℕ) (first : Option Recall) (recalls : List Recall) → IfSome first (IsOf number) → low < number
    → All (IsBelow low) recalls → All (IsBelow low) (cons_option first recalls)
one_above low number None recalls is below above = above
one_above low number (Some r) recalls is below above = All-cons (IsBelow low) r recalls (omega (arith, is, below)) above

one_rises : (number : ℕ) (first : Option Recall) (recalls : List Recall) → IfSome first (IsOf number)
    → All (IsBelow number) recalls → AllPairs IsBefore recalls → AllPairs IsBefore (cons_option first recalls)
one_rises number None recalls is above rise = rise
one_rises number (Some r) recalls is above rise =
    AllPairs-cons IsBefore r recalls (λ k d within. omega (arith, is, above k d within)) rise

-- the recalls of those delegations that are called back
module _ (recall : Delegation → Option Recall) (is : (d : Delegation) → IfSome (recall d) (IsOf d.number)) where
  all_above : (low : ℕ) (ds : List Delegation) → AllByRecursion (λ d. low < d.number) ds → All (IsBelow low) (filter_map recall ds)
  all_above low [] h = All-nil (IsBelow low)
  all_above low (d ∷ ds) h = one_above low d.number (recall d) (filter_map recall ds) (is d) h.0 (all_above low ds h.1)

  all_rise : (ds : List Delegation) → StandInOrder ds → AllPairs IsBefore (filter_map recall ds)
  all_rise [] h = none_rise
  all_rise (d ∷ ds) h =
      one_rises d.number (recall d) (filter_map recall ds) (is d) (all_above d.number ds h.0) (all_rise ds h.1)

number_told : (node : ℕ) (d : Delegation) (client : Option ClientState) → IfSome (option_map (recall_to node d) client) (IsOf d.number)
number_told node d None = tt
number_told node d (Some client) = refl

number_kept : (node : ℕ) (file_use : FileUse) (clients : Registry) (d : Delegation) → IfSome (recall_for node file_use clients d) (IsOf d.number)
number_kept node file_use clients d =
    let client = record_state (record_of d.client clients) in
    cond_both (is_called_back file_use d) (option_map (recall_to node d) client) None (λ recall. IfSome recall (IsOf d.number))
    (λ _. number_told node d client) (λ _. tt)

rise : (change : Change) (old : State) → AllByRecursion StandInOrder old.delegations → AllPairs IsBefore (recalls_by change old)
rise (changes.Recalls node file_use moment) old h =
    all_rise (recall_for node file_use old.clients) (number_kept node file_use old.clients) (delegations_of node old.delegations)
    (lists_at StandInOrder tt node old.delegations h)
rise change old h = none_rise

pub returns : goal.returns
returns c journal state entry effect lawful allowed =
    rise effect.change state (c.lawful_is_safe.ensures.safe journal state lawful).delegations_in_order
