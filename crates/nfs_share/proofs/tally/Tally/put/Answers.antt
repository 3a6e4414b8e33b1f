use Rattle.std.proofs.Common.{◌∙◌, ap, cond, rules, sym}
use Rattle.indexmap.specs.IndexMap.{get}
use Rattle.nfs_forms.specs.ClientId.{is_same_client}
use Rattle.nfs_share.specs.Tally.{is_same_key, key_of}
use Rattle.nfs_share.proofs.Tallies.{entry_some, entry_zero}
use Rattle.nfs_share.proofs.tally.Tally.put.Goals as goal

pub returns-then-own-eq0-clause-own : goal.returns-then-own-eq0-clause-own
returns-then-own-eq0-clause-own c = λ some other.
    c.swap_remove-before.ensures.updates.0 (key_of other)
    ∙ ap (λ w. cond (is_same_client c.args.client other) w (get is_same_key c.args.self.now.of_client (key_of other))) (sym (entry_zero c.args.own c.if-own-eq0.true))

pub returns-in-Some-clause-own : goal.returns-in-Some-clause-own
returns-in-Some-clause-own c = λ some other.
    ((c.get_mut.follows.holds c.args.own).3 (search rules)).0 (key_of other)
    ∙ ap (λ w. cond (is_same_client c.args.client other) w (get is_same_key c.args.self.now.of_client (key_of other))) (sym (entry_some c.args.own c.if-own-eq0.false))
