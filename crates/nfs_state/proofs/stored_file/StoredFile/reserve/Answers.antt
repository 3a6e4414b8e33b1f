use Rattle.std.proofs.Common.{subst, sym}
use Rattle.nfs_state.specs.FileChange.{ComesWith}
use Rattle.nfs_state.specs.declared.file_change.FileChange.{FileChange}
use Rattle.nfs_state.proofs.FileChanges.{grown}
use Rattle.nfs_state.proofs.stored_file.StoredFile.reserve.Goals as goal

pub invariant_of-self-2 : goal.invariant_of-self-2
invariant_of-self-2 c =
    let f = c.self.inside in
    let w = c.in_ok-prepare.field-0 in
    let new = c.prepare.new.pages in
    let is = c.in_ok-prepare.ensures in
    let more = grown f.size f.pages new c.self.invariant.1 c.self.invariant.0 is.zeros in (
      more.0,
      more.1,
      subst (λ (change : FileChange). ComesWith new change w.pages) (sym is.change) is.pages,
    )
