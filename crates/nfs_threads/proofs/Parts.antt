-- A worker's receipts, cut into the parts of its connections.
use Rattle.std.proofs.Common.{◌≡◌, List, [], ◌∷◌, ◌++◌, refl, sym, ap, ◌∙◌, append_assoc}
use Rattle.std.specs.List.{flat_map}
use Rattle.std.proofs.lemmas.List.{append-nil}
use Rattle.nfs_server.specs.Connection.{scene}
use Rattle.nfs_shared.specs.Seats.{SeatView}
use Rattle.nfs_shared.specs.declared.receipt.Receipt.{Receipt}
use Rattle.nfs_tree.specs.Tree.{Files}
use Rattle.nfs_threads.specs.Parts.{AreParts, HasParts}
use Rattle.nfs_threads.specs.Worker.{AreServed, IsEndOf, Linking, Stand, stand}
use Rattle.nfs_threads.specs.declared.connection_end.ConnectionEnd.{ConnectionEnd}
use Rattle.nfs_threads.specs.declared.worker_end.WorkerEnd.{WorkerEnd}
use Rattle.nfs_threads.proofs.Receipts.{receipts_are_questions}
use Rattle.nfs_server.specs.Serves.{exported}

-- the parts of the receipts that a desk gained while connections were served
pub record Gained {L D C : Type 0} (linking : Linking L D C) (tree : Files) (before : Stand L) (connections : List ConnectionEnd) (after : Stand L) : Type 0 where
  pub parts : List (List Receipt)
  pub are : AreParts linking tree before connections parts after
  pub more : after.desk.receipts ≡ before.desk.receipts ++ flat_map (λ part. part) parts
  pub place : after.desk.seat.place ≡ before.desk.seat.place

parts_of : {L D C : Type 0} (linking : Linking L D C) (tree : Files) (before : Stand L) (connections : List ConnectionEnd) (after : Stand L)
    → AreServed linking tree before connections after
    → Gained linking tree before connections after
parts_of {L = L} linking tree before [] after are = record {
  parts = [];
  are = are;
  more = ap (λ (s : Stand L). s.desk.receipts) are ∙ sym (append-nil before.desk.receipts);
  place = ap (λ (s : Stand L). s.desk.seat.place) are;
}
parts_of linking tree before (one ∷ more) after are =
    let mid = are.0 in
    let is = are.1 in
    let gains = receipts_are_questions linking.device (exported tree linking.served) linking.served.epoch linking.tells (scene is.device before.desk is.clock) (scene is.device' mid.desk is.clock') is.course.0 one.result is.course.1 in
    let rest = parts_of linking tree mid more after are.2 in record {
      parts = gains.receipts ∷ rest.parts;
      are = (mid, (is, gains, refl), rest.are);
      more = rest.more
          ∙ ap (λ (r : List Receipt). r ++ flat_map (λ part. part) rest.parts) gains.more
          ∙ append_assoc before.desk.receipts gains.receipts (flat_map (λ part. part) rest.parts);
      place = rest.place ∙ gains.place;
    }

pub has_parts : {N L D C : Type 0} (linking : Linking L D C) (tree : Files) (links : L) (seat : SeatView) (end : WorkerEnd N)
    → IsEndOf linking tree links seat end → HasParts linking tree links seat end
has_parts linking tree links seat end is =
    let shift = is.0 in
    let gained = parts_of linking tree (stand links shift.desk) end.shift.connections.items shift.served.0 shift.served.1 in
    let last : shift.desk' ≡ shift.served.0.desk = shift.served.3 in record {
      before = stand links shift.desk;
      begun = (refl, shift.begun.0, shift.begun.1);
      after = shift.served.0;
      parts = gained.parts;
      are = gained.are;
      all = shift.ended.1 ∙ ap (λ h. h.receipts) last ∙ gained.more ∙ ap (λ (r : List Receipt). r ++ flat_map (λ part. part) gained.parts) shift.begun.1;
      place = ap (λ (s : SeatView). s.place) shift.ended.0 ∙ ap (λ h. h.seat.place) last ∙ gained.place ∙ ap (λ (s : SeatView). s.place) shift.begun.0;
    }
