use Rattle.std.proofs.Common.{ℕ, ap, sym, ◌∙◌, arith}
use Rattle.nfs_state.specs.Lease.{is_over}
use Rattle.nfs_words.specs.Sitting.{Sitting, Words}
use Rattle.nfs_words.proofs.Steps.{closes_named}
use Rattle.nfs_words.proofs.word_leases.WordLeases.shut.Goals as goal

pub compare_exchange_with-found-requires : goal.compare_exchange_with-found-requires
compare_exchange_with-found-requires g c = (
  ap (λ (s : Sitting). s.table) c.seat.view_is ∙ c.requires.fits.0 ∙ sym (ap (λ (w : Words). w.table) c.self.view_is),
  omega (arith, c.self.invariant, c.slot_of-slot.ensures.range),
  closes_named _ _ c.seat.inside.token.me c.args.client g.C.Asked.client _ c.args.seen _ _ _ c.requires.named c.slot_of-slot.ensures.slot (omega arith) (omega arith) (omega arith)
      (ap (λ (s : Sitting). s.view.keeps) c.seat.view_is ∙ c.requires.keeper)
      (ap (is_over c.args.seen c.seat.inside.token.me.0.lease) c.seconds-at.ensures.value
      ∙ ap (λ (s : Sitting). is_over c.args.seen s.view.lease c.args.now) c.seat.view_is
      ∙ ap (λ (n : ℕ). is_over c.args.seen n c.args.now) c.requires.fits.1 ∙ c.requires.due),
)
