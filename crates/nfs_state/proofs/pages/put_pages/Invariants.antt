use Rattle.std.proofs.Common.{◌≡◌, ◌+◌, ◌++◌, ◌≤◌, drop, length, take}
use Rattle.std.specs.Prelude.{vec_len}
use Rattle.nfs_state.proofs.pages.put_pages.Given as goal

-- those that are left, with what stands behind their place, are what is to stand there
abbrev pub invariant-loop-page : goal.invariant-loop-page
invariant-loop-page l = record {
  front : take l.first l.all ≡ take l.first l.initial.all;
  back : l.pages.items ++ drop (l.first + length l.pages.items) l.all
      ≡ l.initial.pages.items ++ drop (l.first + length l.initial.pages.items) l.initial.all;
  fits : l.first + length l.pages.items ≤ length l.all;
}

abbrev pub decreases-loop-page : goal.decreases-loop-page
decreases-loop-page l = vec_len l.pages
