use Rattle.std.proofs.Common.{◌≡◌, ◌+◌, ◌∙◌, ◌≤◌, Option, ap, arith, length, subst, sym, take}
use Rattle.std.specs.Prelude.{IfSome, max}
use Rattle.nfs_state.specs.FileChange.{ComesWith}
use Rattle.nfs_state.specs.Files.{FileState, RoomyFile, after_write, written}
use Rattle.nfs_state.specs.Pages.{AreFilledUp, page_start, replaced}
use Rattle.nfs_state.specs.declared.file_change.FileChange.TheVariants.{Writes}
use Rattle.nfs_state.specs.declared.stored_file.ReadyChange.{ReadyChange}
use Rattle.nfs_state.proofs.FileChanges.{part_fits, written_file}
use Rattle.nfs_state.proofs.ReadyChanges.{room_known}
use Rattle.nfs_state.proofs.stored_file.StoredFile.write.Goals as goal

pub replace-requires : goal.replace-requires
replace-requires c =
    let w = c.unwrap-ready.result in
    let f = c.self.inside in
    let known = room_known f.pages f.ready w (Writes c.args.offset c.args.block.now) c.self.invariant.2 (sym c.take.ensures.value ∙ c.unwrap-ready.ensures) (ap (λ (r : RoomyFile). r.ready) c.self.view_is ∙ c.requires.room) in
    part_fits (page_start c.args.offset) c.args.offset w.pages c.args.block.now f.pages (omega (arith, known.0)) known.0 known.1

pub invariant_of-self : goal.invariant_of-self
invariant_of-self c =
    let w = c.unwrap-ready.result in
    let f = c.self.inside in
    let block = c.args.block.now in
    let known = room_known f.pages f.ready w (Writes c.args.offset block) c.self.invariant.2 (sym c.take.ensures.value ∙ c.unwrap-ready.ensures) (ap (λ (r : RoomyFile). r.ready) c.self.view_is ∙ c.requires.room) in
    let new = c.replace.new.self in
    let comes : new ≡ replaced c.args.offset block f.pages = c.replace.ensures ∙ known.1 in
    let size : max f.size (c.args.offset + length block) ≡ c.max-self-inside.result = omega (arith, c.max-self-inside.ensures, ap length c.as_slice.ensures) in
    let file = written_file f.size c.args.offset block f.pages new c.self.invariant.1 c.self.invariant.0 known.0 comes in (
      subst (λ n. n ≤ length new) size file.2,
      subst (λ n. AreFilledUp (take n new) new) size file.1,
      subst (λ (r : Option ReadyChange). IfSome r (λ w. ComesWith new w.change w.pages)) (sym c.take.ensures.after) tt,
    )

pub returns : goal.returns
returns c =
    let w = c.unwrap-ready.result in
    let f = c.self.inside in
    let block = c.args.block.now in
    let known = room_known f.pages f.ready w (Writes c.args.offset block) c.self.invariant.2 (sym c.take.ensures.value ∙ c.unwrap-ready.ensures) (ap (λ (r : RoomyFile). r.ready) c.self.view_is ∙ c.requires.room) in
    let new = c.replace.new.self in
    let comes : new ≡ replaced c.args.offset block f.pages = c.replace.ensures ∙ known.1 in
    let size : c.max-self-inside.result ≡ max f.size (c.args.offset + length block) = omega (arith, c.max-self-inside.ensures, ap length c.as_slice.ensures) in
    let file = written_file f.size c.args.offset block f.pages new c.self.invariant.1 c.self.invariant.0 known.0 comes in
    let bytes : take c.max-self-inside.result new ≡ written c.args.offset block (take f.size f.pages) = ap (λ n. take n new) size ∙ file.0 in
    let made : FileState → FileState = λ old. after_write c.args.offset block old in
    (λ i. record { node = f.node; bytes = bytes i; change = f.change + 1 })
    ∙ ap (λ (r : RoomyFile). made r.file) c.self.view_is
