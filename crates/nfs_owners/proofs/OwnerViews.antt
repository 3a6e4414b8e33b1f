-- What a change of rows is to the owners in them.
use Rattle.std.proofs.Common.{◌≡◌, ℕ, Bool, false, Some, None, Option, List, [], ◌∷◌, ◌++◌, is_some, refl, sym, ap, ◌∙◌, subst}
use Rattle.std.specs.Prelude.{if◌then◌else◌}
use Rattle.nfs_rows.specs.Rows.{Row, is_numbered, without}
use Rattle.nfs_rows.proofs.Callers.{without_seen}
use Rattle.nfs_forms.specs.declared.client_id.ClientId.{ClientId}
use Rattle.nfs_owners.specs.Owner.{has_client, has_name, is_known, new_owner, with_request}
use Rattle.nfs_owners.specs.OwnerRows.{IsRowOf, confirmed, owners_in, with_state_at}
use Rattle.nfs_owners.specs.Owners.{with_change, with_confirmed, with_kept, without_owner, without_owners_of}
use Rattle.nfs_owners.specs.declared.kept.KeptSummary.{KeptSummary}
use Rattle.nfs_owners.specs.declared.owner.Owner.{Owner}
use Rattle.nfs_owners.specs.declared.state_owner.StateOwner.{StateOwner}
use Rattle.nfs_owners.proofs.Filing.{all_true, state_seen}
use Rattle.nfs_owners.proofs.OwnerLists.{unknown_change}

pub some_known : (name : StateOwner) (rows : List (Row Owner)) (at : Option ℕ) → IsRowOf name rows at → is_some at ≡ is_known name (owners_in rows)
some_known name rows None is = sym is
some_known name rows (Some row) is = sym is.0

pub kept_known : (name : StateOwner) (number : ℕ) (kept : KeptSummary) (confirmed : Bool) (row : ℕ) (rows new : List (Row Owner)) → IsRowOf name rows (Some row) → new ≡ with_state_at (with_request number kept) row rows
    → owners_in new ≡ with_kept name number kept confirmed (owners_in rows)
kept_known name number kept confirmed row rows new is set =
    ap owners_in set ∙ state_seen (with_request number kept) row name rows is.1
    ∙ sym (ap (λ b. if b then with_change (with_request number kept) name (owners_in rows) else owners_in rows ++ new_owner name number kept confirmed ∷ []) is.0)

pub kept_unknown : (name : StateOwner) (number : ℕ) (kept : KeptSummary) (confirmed : Bool) (o : Owner) (owners new : List Owner) → is_known name owners ≡ false → o ≡ new_owner name number kept confirmed → new ≡ owners ++ o ∷ []
    → new ≡ with_kept name number kept confirmed owners
kept_unknown name number kept confirmed o owners new unknown is set =
    set ∙ ap (λ o. owners ++ o ∷ []) is
    ∙ sym (ap (λ b. if b then with_change (with_request number kept) name owners else owners ++ new_owner name number kept confirmed ∷ []) unknown)

pub confirmed_known : (name : StateOwner) (row : ℕ) (rows new : List (Row Owner)) → IsRowOf name rows (Some row) → new ≡ with_state_at confirmed row rows → owners_in new ≡ with_confirmed name (owners_in rows)
confirmed_known name row rows new is set = ap owners_in set ∙ state_seen confirmed row name rows is.1

pub confirmed_unknown : (name : StateOwner) (owners : List Owner) → is_known name owners ≡ false → owners ≡ with_confirmed name owners
confirmed_unknown name owners unknown = sym (unknown_change confirmed name owners unknown)

pub removed_known : (name : StateOwner) (row : ℕ) (rows new : List (Row Owner)) → IsRowOf name rows (Some row) → new ≡ without (is_numbered row) rows → owners_in new ≡ without_owner name (owners_in rows)
removed_known name row rows new is set = ap owners_in set ∙ without_seen (λ r. r.value) (is_numbered row) (has_name name) rows is.1

pub removed_client : (client : ClientId) (rows new : List (Row Owner)) → new ≡ without (λ r. has_client client r.value) rows → owners_in new ≡ without_owners_of client (owners_in rows)
removed_client client rows new set =
    ap owners_in set
    ∙ without_seen (λ r. r.value) (λ r. has_client client r.value) (has_client client) rows (all_true (λ (r : Row Owner). has_client client r.value ≡ has_client client r.value) (λ r. refl) rows)

-- what is known of the row that was found
pub found_row : (name seen : StateOwner) (rows : List (Row Owner)) (found at : Option ℕ) → seen ≡ name → found ≡ at → IsRowOf seen rows found → IsRowOf name rows at
found_row name seen rows found at same is row = subst (λ at. IsRowOf name rows at) is (subst (λ n. IsRowOf n rows found) same row)
