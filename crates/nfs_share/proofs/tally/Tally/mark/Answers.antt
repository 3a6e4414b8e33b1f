use Rattle.std.proofs.Common.{◌∷◌, ◌-◌, ◌∙◌, ap, cond, inr, refl, sym, true}
use Rattle.indexmap.specs.IndexMap.{get}
use Rattle.nfs_share.specs.Tally.{is_own, is_same_key, key_of, mark_of}
use Rattle.nfs_share.specs.declared.count.Count.{Count}
use Rattle.nfs_share.proofs.Tallies.{has_own, less_is, others_more, plus_is, same_client_self, with_own}
use Rattle.nfs_share.proofs.tally.Tally.mark.Goals as goal

pub returns-clause-tally : goal.returns-clause-tally
returns-clause-tally c = λ marks tally few.
    let client = c.args.client in
    let before = mark_of client c.args.was ∷ marks in
    let after = mark_of client c.args.marked ∷ marks in
    let less = less_is client c.args.was marks (is_own client) c.own.result c.less.result (same_client_self client) (c.own.ensures before tally) c.less.ensures in
    let own = plus_is client c.args.marked marks (is_own client) c.less.result c.plus-own.result (same_client_self client) less c.plus-own.ensures few in
    let rest = less_is client c.args.was marks (λ m. true) c.args.self.now.all c.less-2.result refl tally.all (c.less-2.ensures ∙ ap (λ (n : Count). record { all = n.all - 1; marked = cond c.args.was (n.marked - 1) n.marked }) c.put.ensures.all) in
    record {
      own = with_own client before after (λ q. get is_same_key c.args.self.now.of_client (key_of q)) (λ q. get is_same_key c.put.new.self.of_client (key_of q)) c.plus-own.result
          tally.own (c.put.ensures.own (inr (has_own client c.args.was marks (get is_same_key c.args.self.now.of_client (key_of client)) (tally.own client)))) own
          (λ q differs. sym (others_more client c.args.was marks q differs) ∙ others_more client c.args.marked marks q differs);
      all = plus_is client c.args.marked marks (λ m. true) c.less-2.result c.plus-self.result refl rest c.plus-self.ensures few;
    }
