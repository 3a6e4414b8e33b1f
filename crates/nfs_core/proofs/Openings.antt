-- What the rule of OPEN may change: it opens a file, or calls delegations back.
use Rattle.std.proofs.Common.{◌≡◌, ℕ, false, Some, List, Result, Ok, Err, sym, ap, ◌∙◌, subst}
use Rattle.std.specs.Prelude.{⊤, if◌then◌else◌}
use Rattle.std.specs.List.{list_any}
use Rattle.std.proofs.lemmas.Bool.{cond_both}
use Rattle.nfs_core.proofs.SoundLocking.{placed}
use Rattle.nfs_core.proofs.SoundSequences.{some_equal}
use Rattle.nfs_core.proofs.SoundTargets.{bound, ok_equal, unrefused}
use Rattle.nfs_forms.specs.declared.claim.Claim.{Claim}
use Rattle.nfs_forms.specs.declared.claim.Claim.TheVariants as claims
use Rattle.nfs_forms.specs.declared.client_id.ClientId.{ClientId}
use Rattle.nfs_forms.specs.declared.open_how.OpenHow.{OpenHow}
use Rattle.nfs_forms.specs.declared.open_owner.OpenOwner.{OpenOwner}
use Rattle.nfs_forms.specs.declared.status.Refusal.{Refusal}
use Rattle.nfs_forms.specs.declared.status.Refusal.TheVariants as refusals
use Rattle.nfs_operations.specs.declared.«open».Open.{Open}
use Rattle.nfs_rules.specs.Lending.{lent}
use Rattle.nfs_rules.specs.Stateids.{delegation_of, verdict}
use Rattle.nfs_rules.specs.declared.opening.Opening.{Opening}
use Rattle.nfs_rules.specs.declared.passage.Passage.{Passage}
use Rattle.nfs_rules.specs.declared.ruling.Ruling.{Ruling}
use Rattle.nfs_rules.specs.operations.Open as opening
use Rattle.nfs_share.specs.AllOpens.{delegations_of, opens_of}
use Rattle.nfs_share.specs.Delegations.{conflicts}
use Rattle.nfs_share.specs.Opens.{is_refused}
use Rattle.nfs_share.specs.Share.{share_of_numbers}
use Rattle.nfs_share.specs.declared.delegation.FileUse.TheVariants as uses
use Rattle.nfs_share.specs.declared.share.Share.{Share}
use Rattle.nfs_state.specs.State.{State, History}
use Rattle.nfs_state.specs.declared.change.Change.{Change}
use Rattle.nfs_state.specs.declared.change.Change.TheVariants as changes
use Rattle.nfs_tree.specs.Tree.{is_directory, resolution}
use Rattle.nfs_tree.specs.declared.node.Node.{Node}

-- what an OPEN may change: no directory is opened
abbrev pub IsOpening : List Node → Change → Type 0
IsOpening nodes changes.Nothing = ⊤
IsOpening nodes (changes.Recalls node file_use moment) = ⊤
IsOpening nodes (changes.Opens node owner share lent) = is_directory nodes node ≡ false
IsOpening nodes change = ⊥

-- What is opened is no directory.

file_found : (journal : History) (how : OpenHow) (node file : ℕ) → opening.file_at journal how node ≡ Ok file → is_directory journal.nodes file ≡ false
file_found journal how node file is =
    let other = unrefused (is_directory journal.nodes node) refusals.IsDir (if opening.wants_new how then Err refusals.Exist else Ok node) file is in
    let old = unrefused (opening.wants_new how) refusals.Exist (Ok node) file other.1 in
    subst (λ (n : ℕ). is_directory journal.nodes n ≡ false) (ok_equal node file old.1) other.0

claimed_same : (journal : History) (state : State) (client : ClientId) (claim : Claim) (file at : ℕ) → opening.claimed journal state client claim file ≡ Ok at → file ≡ at
claimed_same journal state client (claims.DelegateCur id name) file at is =
    bound (file ≡ at) (verdict (delegation_of client file) journal.epoch state id) _ at (λ found _ same. ok_equal file at same) is
claimed_same journal state client claim file at is = ok_equal file at is

denied_same : (state : State) (owner : OpenOwner) (share : Share) (at : ℕ) (o : Opening) → opening.unless_denied state owner share at ≡ Ok o → at ≡ o.node
denied_same state owner share at o is =
    let new : Opening = record { node = at; share = share } in
    let free = unrefused (is_refused owner share (opens_of at state.opens)) refusals.ShareDenied (Ok new) o is in
    ap (λ (x : Opening). x.node) (ok_equal new o free.1)

opened_file : (journal : History) (state : State) (directory : ℕ) (args : Open) (o : Opening) → opening.opening journal state directory args ≡ Ok o → is_directory journal.nodes o.node ≡ false
opened_file journal state directory args o is =
    let P : Type 0 = is_directory journal.nodes o.node ≡ false in
    bound P (opening.name_of args.claim) _ o (λ name _.
    bound P (opening.share_or_inval (share_of_numbers args.access args.deny)) _ o (λ share _.
    bound P (opening.found_by args.how (resolution journal.nodes directory name)) _ o (λ found _.
    bound P (opening.file_at journal args.how found) _ o (λ file is_file.
    bound P (opening.claimed journal state args.owner.client args.claim file) _ o (λ at is_at opens.
    subst (λ (n : ℕ). is_directory journal.nodes n ≡ false)
    (claimed_same journal state args.owner.client args.claim file at is_at ∙ denied_same state args.owner share at o opens)
    (file_found journal args.how found file is_file)))))) is

-- An OPEN is granted, or what is in its way is called back.

granted_opens : (journal : History) (state : State) (passage : Passage) (args : Open) (o : Opening) (ruling : Ruling) → is_directory journal.nodes o.node ≡ false → Some ruling ≡ opening.ruling_of journal state passage args (Ok o) → IsOpening journal.nodes ruling.change
granted_opens journal state passage args o ruling file is =
    let kind = lent journal state passage args o in
    subst (λ (r : Ruling). IsOpening journal.nodes r.change) (sym (placed (opening.has_places state passage args.owner o.node kind) _ ruling is).1) file

refused_opens : (nodes : List Node) (ruling refused : Ruling) → Some ruling ≡ Some refused → IsOpening nodes refused.change → IsOpening nodes ruling.change
refused_opens nodes ruling refused same h = subst (λ (r : Ruling). IsOpening nodes r.change) (sym (some_equal ruling refused same)) h

pub opening_opens : (journal : History) (state : State) (passage : Passage) (directory moment : ℕ) (args : Open) (found : Result Opening Refusal) (ruling : Ruling)
    → opening.opening journal state directory args ≡ found
    → Some ruling ≡ opening.ruling_of journal state passage args (opening.opening_or_ruling state moment args.owner.client found) → IsOpening journal.nodes ruling.change
opening_opens journal state passage directory moment args (Err refusal) ruling is rules = refused_opens journal.nodes ruling _ rules tt
opening_opens journal state passage directory moment args (Ok o) ruling is rules =
    let client = args.owner.client in
    let P : Result Opening Ruling → Type 0 = λ r. Some ruling ≡ opening.ruling_of journal state passage args r → IsOpening journal.nodes ruling.change in
    cond_both (list_any (conflicts (uses.Open client o.share)) (delegations_of o.node state.delegations)) (Err (opening.delayed moment client o)) (Ok o) P
    (λ _ same. refused_opens journal.nodes ruling _ same tt)
    (λ _ same. granted_opens journal state passage args o ruling (opened_file journal state directory args o is) same) rules
