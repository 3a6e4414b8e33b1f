use Rattle.std.proofs.Common.{◌-◌}
use Rattle.std.specs.Prelude.{vec_len}
use Rattle.std.specs.List.{concat}
use Rattle.nfs_state.specs.Pages.{AreFilledUp, AreWhole}
use Rattle.nfs_state.proofs.pages.add_zeros.Given as goal

abbrev pub invariant-loop-pages : goal.invariant-loop-pages
invariant-loop-pages l = record {
  zeros : AreFilledUp (concat l.initial.pages.items) (concat l.pages.items);
  whole : AreWhole l.initial.pages.items → AreWhole l.pages.items;
}

abbrev pub decreases-loop-pages : goal.decreases-loop-pages
decreases-loop-pages l = l.count - vec_len l.pages
