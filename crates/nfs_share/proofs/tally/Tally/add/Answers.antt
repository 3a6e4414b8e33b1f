use Rattle.std.proofs.Common.{◌∷◌, ◌∙◌, ap, cond, refl, sym, true}
use Rattle.indexmap.specs.IndexMap.{get}
use Rattle.nfs_forms.specs.ClientId.{is_same_client}
use Rattle.nfs_forms.specs.declared.client_id.ClientId.{ClientId}
use Rattle.nfs_share.specs.Tally.{is_own, is_same_key, key_of, mark_of}
use Rattle.nfs_share.proofs.Tallies.{from_ok, more_kept, others_more, plus_is, same_client_self, with_own}
use Rattle.nfs_share.proofs.tally.Tally.add.Goals as goal

pub returns-clause-tally : goal.returns-clause-tally
returns-clause-tally c = λ marks tally few.
    let client = c.args.client in
    let marked = c.args.marked in
    let more = mark_of client marked ∷ marks in
    let own = plus_is client marked marks (is_own client) c.own.result c.plus-own.result (same_client_self client) (c.own.ensures marks tally) c.plus-own.ensures few in
    let updates = from_ok c.insert-before.result _ (c.insert-before.ensures.succeeds c.requires) c.insert-before.ensures.updates in
    let kept = more_kept client marked marks c.plus-own.result own in
    let writes = λ (q : ClientId). updates.0 (key_of q) ∙ ap (λ w. cond (is_same_client client q) w (get is_same_key c.args.self.now.of_client (key_of q))) (sym kept) in
    record {
      own = with_own client marks more (λ q. get is_same_key c.args.self.now.of_client (key_of q)) (λ q. get is_same_key c.insert-before.new.self (key_of q)) c.plus-own.result
          tally.own writes own (others_more client marked marks);
      all = plus_is client marked marks (λ m. true) c.args.self.now.all c.plus-self.result refl tally.all c.plus-self.ensures few;
    }
