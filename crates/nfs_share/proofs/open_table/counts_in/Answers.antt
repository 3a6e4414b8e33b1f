use Rattle.std.proofs.Common.{[], ◌∙◌, ap, map, sym}
use Rattle.nfs_share.proofs.Tables.{counts_more, pairs_map}
use Rattle.nfs_share.proofs.open_table.counts_in.Goals as goal

pub loop-open-init : goal.loop-open-init
loop-open-init c = record {
  counted = record {
    done = [];
    counts_are = c.new-counts.ensures;
    whole = sym (ap (map (λ p. p.1)) c.iter-left.ensures ∙ pairs_map c.args.rows.now.rows);
  };
}

pub loop-open-preserved : goal.loop-open-preserved
loop-open-preserved c = record {
  counted = counts_more c.args.rows.now.rows c.loop-open.counts c.plus-counts.result c.loop-open.left c.next.new.self c.in-Some.field-0-0 c.in-Some.open.now c.share.result c.len-count.result
      c.loop-open.invariant.counted c.in-Some.ensures.steps c.share.ensures c.len-count.ensures.len c.len-count.type_inv c.plus-counts.ensures;
}
