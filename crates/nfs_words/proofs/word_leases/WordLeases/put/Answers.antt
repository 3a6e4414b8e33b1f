use Rattle.std.proofs.Common.{ap, sym, ◌∙◌, arith, subst}
use Rattle.nfs_words.specs.Deeds.{was_opened_by, is_open_by, resting_word_of}
use Rattle.nfs_owners.specs.Slots.{slot_of}
use Rattle.nfs_words.specs.Sitting.{Sitting, Words}
use Rattle.nfs_words.proofs.Steps.{opens_named}
use Rattle.nfs_leases.specs.BookEvent.{IsAloneIn}
use Rattle.nfs_words.proofs.word_leases.WordLeases.put.Goals as goal

pub compare_exchange-requires : goal.compare_exchange-requires
compare_exchange-requires g c = (
  ap (λ (s : Sitting). s.table) c.seat.view_is ∙ c.requires.fits.0 ∙ sym (ap (λ (w : Words). w.table) c.self.view_is),
  omega (arith, c.self.invariant, c.slot_of-slot.ensures.range),
  opens_named _ _ c.seat.inside.token.me c.args.client g.C.Asked.client _ c.args.moment _ _ c.requires.named c.slot_of-slot.ensures.slot (omega arith) (omega arith)
      (ap (λ (s : Sitting). s.view.keeps) c.seat.view_is ∙ c.requires.keeper)
      (ap (λ (s : Sitting). was_opened_by s.view.own c.args.client) c.seat.view_is ∙ c.requires.fresh)
      (subst (λ (s : Sitting). IsAloneIn (is_open_by s.view.own) c.args.client) (sym c.seat.view_is) c.requires.alone)
      (c.requires.seen ∙ sym (ap (λ (s : Sitting). resting_word_of (slot_of c.args.client) s.view.own) c.seat.view_is)),
)
