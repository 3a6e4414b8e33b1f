use Rattle.std.proofs.Common.{◌≡◌, ◌∙◌, Bool, true, false, ap, refl, subst, sym}
use Rattle.std.proofs.lemmas.Result.{on_err_weaker}
use Rattle.std.specs.Prelude.{◌&&◌, not}
use Rattle.nfs_owners.specs.Kept.{kept_seen}
use Rattle.nfs_owners.specs.StateOwner.{owner_seen}
use Rattle.nfs_rules.specs.Deciding.{HasAnswer}
use Rattle.nfs_rules.specs.Sequences.{IsOfKnown, is_open}
use Rattle.nfs_rules.proofs.sequence.resume.Goals as goal
use Rattle.nfs_rules.proofs.sequence.resume.Goals.{else-is_open-via-then-is_open+else-not-known, else-is_open-via-else-is_open}

second_fails : (a b : Bool) → b ≡ false → (a && b) ≡ false
second_fails true b fails = fails
second_fails false b fails = refl

pub returns-else-is_open-clause-memory : goal.returns-else-is_open-clause-memory
returns-else-is_open-clause-memory c =
    let known = c.args.known.now in
    let has_answer : Bool → Type 0 = λ b. HasAnswer (IsOfKnown b (kept_seen known.kept c.args.call) (owner_seen c.args.name) c.args.seqid c.args.request.now) in
    let restarts = is_open c.args.request.now.op && not known.confirmed in
    let fails : restarts ≡ false = elim c.else-is_open.branch [
      | else-is_open-via-then-is_open+else-not-known w ↦ second_fails (is_open c.args.request.now.op) (not known.confirmed) (ap not w.if-not-known.false)
      | else-is_open-via-else-is_open w ↦ ap (λ b. b && not known.confirmed) (sym c.is_open.ensures ∙ w.if-is_open.false)
    ] in
    on_err_weaker c.judge.result (λ has. subst has_answer (sym fails) has) c.judge.ensures.memory
