use Rattle.std.proofs.Common.{◌≡◌, ◌∙◌, ℕ, ◌∷◌, ap, map, subst, sym}
use Rattle.nfs_rows.specs.Rows.{pair_of}
use Rattle.nfs_owners.specs.Closers.{AreClosers}
use Rattle.nfs_owners.specs.Owner.{has_client}
use Rattle.nfs_owners.specs.declared.owner.Owner.{Owner}
use Rattle.nfs_owners.proofs.Leaving.{ArePairs, are_pairs, left, left_all, left_closed, left_forgotten, left_kept}
use Rattle.nfs_owners.proofs.owner_rows.forget_client.Goals as goal

pub loop-owner-init : goal.loop-owner-init
loop-owner-init c =
    let rows = c.args.rows.now.rows in
    let test = has_client c.args.client in
    let whole : c.into_iter-owner-iterator.result ≡ map pair_of rows = c.into_iter-owner-iterator.ensures.into_iter_gives ∙ c.iter-owner-items.ensures in
    record {
      can = tt;
      finite = tt;
      pairs = subst (ArePairs rows) (sym whole) (are_pairs rows c.len-rows.ensures.order);
      closers = λ are. subst (AreClosers c.args.closers.now) (left_all test rows ∙ ap (left test rows) (sym whole)) are;
    }

pub loop-owner-preserved-then-has_client : goal.loop-owner-preserved-then-has_client
loop-owner-preserved-then-has_client c =
    let rows = c.args.rows.now.rows in
    let test = has_client c.args.client in
    let p : ℕ × Owner = (c.in-Some.field-0-0, c.in-Some.owner.now) in
    let rest = c.next.new.self in
    let step : c.loop-owner.owner-iterator ≡ p ∷ rest = c.in-Some.ensures.steps in
    let pairs = subst (ArePairs rows) step c.loop-owner.invariant.pairs in
    let order = c.len-rows.ensures.order in
    record {
      can = tt;
      finite = tt;
      pairs = (pairs.0.1, pairs.1.1);
      closers = λ are.
          subst (AreClosers c.forget.new.self) (left_forgotten test rows p rest order pairs (sym c.has_client.ensures ∙ c.if-has_client.true))
          (c.forget.ensures (left test rows (p ∷ rest)) p.0 (left_closed test rows p rest order pairs ∙ sym c.closed_number.ensures)
          (subst (λ ps. AreClosers c.loop-owner.closers (left test rows ps)) step (c.loop-owner.invariant.closers are)));
    }

pub loop-owner-preserved : goal.loop-owner-preserved
loop-owner-preserved c =
    let rows = c.args.rows.now.rows in
    let test = has_client c.args.client in
    let p : ℕ × Owner = (c.in-Some.field-0-0, c.in-Some.owner.now) in
    let rest = c.next.new.self in
    let step : c.loop-owner.owner-iterator ≡ p ∷ rest = c.in-Some.ensures.steps in
    let pairs = subst (ArePairs rows) step c.loop-owner.invariant.pairs in
    record {
      can = tt;
      finite = tt;
      pairs = (pairs.0.1, pairs.1.1);
      closers = λ are.
          subst (AreClosers c.loop-owner.closers) (ap (left test rows) step ∙ left_kept test rows p rest c.len-rows.ensures.order pairs (sym c.has_client.ensures ∙ c.if-has_client.false))
          (c.loop-owner.invariant.closers are);
    }

pub returns : goal.returns
returns c are =
    subst (AreClosers c.loop-owner.closers) (ap (left (has_client c.args.client) c.args.rows.now.rows) c.in-None.ensures.steps.0) (c.loop-owner.invariant.closers are)
