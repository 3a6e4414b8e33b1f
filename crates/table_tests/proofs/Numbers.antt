-- The numbers of a file's opens, and of its delegations: they stay below the next one.
use Rattle.std.proofs.Common.{◌≡◌, ℕ, ◌+◌, ◌<◌, Bool, List, [], ◌∷◌, ◌++◌, Result, Ok, Err, refl, sym, ap, ◌∙◌, subst, arith}
use Rattle.std.specs.Prelude.{OnErr, OnOk, is_some}
use Rattle.std.proofs.lemmas.Bool.{cond_both}
use Rattle.nfs_forms.specs.declared.open_owner.OpenOwner.{OpenOwner}
use Rattle.nfs_forms.specs.declared.stateid.Stateid.{Stateid}
use Rattle.nfs_forms.specs.declared.client_id.ClientId.{ClientId}
use Rattle.nfs_share.specs.Delegations.{IsAboveLent, first_delegation}
use Rattle.nfs_share.specs.declared.delegation.Delegation.{Delegation}
use Rattle.nfs_share.specs.declared.delegation.DelegationKind.{DelegationKind}
use Rattle.nfs_share.specs.Opens.{FileOpens, IsAbove, after_downgrade, after_open, first_open, is_numbered, is_of, open_of, with_each, with_opening}
use Rattle.nfs_share.specs.declared.open_state.OpenState.{OpenState}
use Rattle.nfs_share.specs.declared.share.Share.{Share}
use Rattle.nfs_share.specs.declared.share_error.ShareError.{ShareError}

above_more : (number : ℕ) (opens : List OpenState) → IsAbove number opens → IsAbove (number + 1) opens
above_more number [] above = tt
above_more number (o ∷ opens) above = (omega (arith, above.0), above_more number opens above.1)

above_push : (number : ℕ) (opens : List OpenState) (o : OpenState) → IsAbove number opens → o.number < number → IsAbove number (opens ++ o ∷ [])
above_push number [] o above below = (below, tt)
above_push number (first ∷ opens) o above below = (above.0, above_push number opens o above.1 below)

-- a change of some opens, none of whose numbers changes
above_each : (number : ℕ) (test : OpenState → Bool) (change : OpenState → OpenState) → ((o : OpenState) → (change o).number ≡ o.number) → (opens : List OpenState) → IsAbove number opens → IsAbove number (with_each test change opens)
above_each number test change same [] above = tt
above_each number test change same (o ∷ opens) above = (
  cond_both (test o) (change o) o (λ (x : OpenState). x.number < number) (λ _. omega (arith, same o, above.0)) (λ _. above.0),
  above_each number test change same opens above.1,
)

above_opening : (owner : OpenOwner) (share : Share) (number : ℕ) (opens : List OpenState) → IsAbove number opens → IsAbove (number + 1) (with_opening owner share number opens)
above_opening owner share number opens above =
    let more = above_more number opens above in
    cond_both (is_some (open_of owner opens)) (with_each (is_of owner) (after_open share) opens) (opens ++ first_open owner share number ∷ []) (IsAbove (number + 1))
    (λ _. above_each (number + 1) (is_of owner) (after_open share) (λ o. refl) opens more)
    (λ _. above_push (number + 1) opens (first_open owner share number) more (omega arith))

pub opened : (owner : OpenOwner) (share : Share) (number : ℕ) (result : Result Stateid ShareError) (old new : FileOpens)
    → OnOk result (new.opens ≡ with_opening owner share number old.opens) → OnErr result (new ≡ old)
    → IsAbove number old.opens → IsAbove (number + 1) new.opens
opened owner share number (Ok stateid) old new ok err above = subst (IsAbove (number + 1)) (sym ok) (above_opening owner share number old.opens above)
opened owner share number (Err error) old new ok err above = above_more number new.opens (subst (λ (f : FileOpens). IsAbove number f.opens) (sym err) above)

pub downgraded : (number : ℕ) (share : Share) (above : ℕ) (result : Result Stateid ShareError) (old new : FileOpens)
    → OnOk result (new ≡ record old { opens = with_each (is_numbered number) (after_downgrade share) old.opens }) → OnErr result (new ≡ old)
    → IsAbove above old.opens → IsAbove above new.opens
downgraded number share above (Ok stateid) old new ok err is =
    subst (λ (f : FileOpens). IsAbove above f.opens) (sym ok) (above_each above (is_numbered number) (after_downgrade share) (λ o. refl) old.opens is)
downgraded number share above (Err error) old new ok err is = subst (λ (f : FileOpens). IsAbove above f.opens) (sym err) is

lent_more : (number : ℕ) (ds : List Delegation) → IsAboveLent number ds → IsAboveLent (number + 1) ds
lent_more number [] above = tt
lent_more number (d ∷ ds) above = (omega (arith, above.0), lent_more number ds above.1)

lent_push : (number : ℕ) (ds : List Delegation) (d : Delegation) → IsAboveLent number ds → d.number < number → IsAboveLent number (ds ++ d ∷ [])
lent_push number [] d above below = (below, tt)
lent_push number (first ∷ ds) d above below = (above.0, lent_push number ds d above.1 below)

pub lent : (client : ClientId) (kind : DelegationKind) (number : ℕ) (result : Result Stateid ShareError) (old new : FileOpens)
    → OnOk result (new.delegations ≡ old.delegations ++ first_delegation client kind number ∷ []) → OnErr result (new ≡ old)
    → IsAboveLent number old.delegations → IsAboveLent (number + 1) new.delegations
lent client kind number (Ok stateid) old new ok err above =
    subst (IsAboveLent (number + 1)) (sym ok) (lent_push (number + 1) old.delegations (first_delegation client kind number) (lent_more number old.delegations above) (omega arith))
lent client kind number (Err error) old new ok err above = lent_more number new.delegations (subst (λ (f : FileOpens). IsAboveLent number f.delegations) (sym err) above)
