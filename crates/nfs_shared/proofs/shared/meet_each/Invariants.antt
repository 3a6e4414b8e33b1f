use Rattle.std.proofs.Common.{◌≡◌, ◌+◌, Contains, length}
use Rattle.nfs_shared.specs.Deeds.{keeper_deeds}
use Rattle.nfs_shared.specs.Ends.{AllBegin, AllBorneOut, AllHeeded, AllMet, given_in}
use Rattle.nfs_shared.specs.Roll.{IsOf, list_of}
use Rattle.nfs_words.specs.Calls.{IsKeeperAt}
use Rattle.nfs_words.specs.declared.event.Event.{Event}
use Rattle.nfs_shared.proofs.shared.meet_each.Given as goal

abbrev pub invariant-loop-seat : goal.invariant-loop-seat
invariant-loop-seat g l = record {
  can : (goal.iterator-loop-seat g).can_next l.seat-iterator;
  ends : (goal.iterator-loop-seat g).is_finite l.seat-iterator;
  table : IsOf g.N.Naming.run.roll l.writer;
  writer : l.writer.me ≡ l.initial.writer.me;
  keeper : IsKeeperAt g.N.Naming.run.words g.N.Naming.run.workers l.keeper;
  deeds : keeper_deeds l.keeper.view.own ≡ keeper_deeds l.initial.keeper.view.own;
  heeded : AllHeeded l.yielded;
  borne_out : AllBorneOut (keeper_deeds l.initial.keeper.view.own) l.yielded;
  more : (e : Event) → Contains l.initial.keeper.view.own e → Contains l.keeper.view.own e;
  begin : AllBegin l.yielded (list_of l.initial.writer);
  met : AllMet g.N.Naming.run.words.lease l.initial.keeper.view.own l.yielded;
  parts : l.rest.parts ≡ l.initial.rest.parts + length l.yielded;
  amount : l.rest.amount ≡ l.initial.rest.amount + given_in l.yielded;
}
