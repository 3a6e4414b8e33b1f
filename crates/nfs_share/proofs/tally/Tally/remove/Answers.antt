use Rattle.std.proofs.Common.{◌∷◌, ◌-◌, ◌∙◌, ap, cond, inr, refl, sym, true}
use Rattle.indexmap.specs.IndexMap.{get}
use Rattle.nfs_share.specs.Tally.{is_own, is_same_key, key_of, mark_of}
use Rattle.nfs_share.specs.declared.count.Count.{Count}
use Rattle.nfs_share.proofs.Tallies.{has_own, less_is, others_more, same_client_self, with_own}
use Rattle.nfs_share.proofs.tally.Tally.remove.Goals as goal

pub returns-clause-tally : goal.returns-clause-tally
returns-clause-tally c = λ marks tally.
    let client = c.args.client in
    let before = mark_of client c.args.marked ∷ marks in
    let own = less_is client c.args.marked marks (is_own client) c.own.result c.less-own.result (same_client_self client) (c.own.ensures before tally) c.less-own.ensures in
    record {
      own = with_own client before marks (λ q. get is_same_key c.args.self.now.of_client (key_of q)) (λ q. get is_same_key c.put.new.self.of_client (key_of q)) c.less-own.result
          tally.own (c.put.ensures.own (inr (has_own client c.args.marked marks (get is_same_key c.args.self.now.of_client (key_of client)) (tally.own client)))) own
          (λ q differs. sym (others_more client c.args.marked marks q differs));
      all = less_is client c.args.marked marks (λ m. true) c.args.self.now.all c.less-self.result refl tally.all (c.less-self.ensures ∙ ap (λ (n : Count). record { all = n.all - 1; marked = cond c.args.marked (n.marked - 1) n.marked }) c.put.ensures.all);
    }
