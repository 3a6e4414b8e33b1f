use Rattle.std.proofs.Common.{◌∙◌, ◌-◌, ap, filter, inl, not, refl}
use Rattle.indexmap.specs.IndexMap.{get}
use Rattle.nfs_share.specs.Tally.{is_own, is_same_key, key_of}
use Rattle.nfs_share.specs.declared.count.Count.{Count}
use Rattle.nfs_share.proofs.Tallies.{left_all, left_others, left_own, others_count, with_own}
use Rattle.nfs_share.proofs.tally.Tally.remove_client.Goals as goal

pub returns-clause-tally : goal.returns-clause-tally
returns-clause-tally c = λ marks tally.
    let client = c.args.client in
    let left = filter (λ m. not (is_own client m)) marks in
    record {
      own = with_own client marks left (λ q. get is_same_key c.args.self.now.of_client (key_of q)) (λ q. get is_same_key c.put.new.self.of_client (key_of q)) (record { all = 0; marked = 0 })
          tally.own (c.put.ensures.own (inl refl)) (left_own client marks) (left_others client marks);
      all = others_count client marks c.args.self.now.all c.own-own.result c.without-self.result tally.all (c.own-own.ensures marks tally) (c.without-self.ensures ∙ ap (λ (n : Count). record { all = n.all - c.own-own.result.all; marked = n.marked - c.own-own.result.marked }) c.put.ensures.all) ∙ left_all client marks;
    }
