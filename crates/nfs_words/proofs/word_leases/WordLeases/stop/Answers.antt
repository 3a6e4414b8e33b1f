use Rattle.std.proofs.Common.{ap, sym, ◌∙◌, arith}
use Rattle.nfs_words.specs.Sitting.{Sitting, Words}
use Rattle.nfs_words.proofs.Steps.{retires_named}
use Rattle.nfs_words.specs.Deeds.{was_opened_by}
use Rattle.nfs_words.proofs.word_leases.WordLeases.stop.Goals as goal

pub fetch_max-requires : goal.fetch_max-requires
fetch_max-requires g c = (
  ap (λ (s : Sitting). s.table) c.seat.view_is ∙ c.requires.fits.0 ∙ sym (ap (λ (w : Words). w.table) c.self.view_is),
  omega (arith, c.self.invariant, c.slot_of-slot.ensures.range),
  retires_named _ _ c.seat.inside.token.me c.args.client g.C.Asked.client _ _ c.requires.named c.slot_of-slot.ensures.slot (omega arith)
      (ap (λ (s : Sitting). s.view.keeps) c.seat.view_is ∙ c.requires.keeper)
      (ap (λ (s : Sitting). was_opened_by s.view.own c.args.client) c.seat.view_is ∙ c.requires.opened),
)
