use Rattle.std.proofs.Common.{List, map, refl, ap, subst, ◌∙◌}
use Rattle.nfs_shared.specs.Ends.{AllApart, AllStand}
use Rattle.nfs_shared.specs.declared.receipt.Receipt.{Receipt}
use Rattle.rows.proofs.Handing.{kept_same}
use Rattle.rows.proofs.seats_back.SeatsBack.end.Goals as goal

pub end-core-requires-clause-kept : goal.end-core-requires-clause-kept
end-core-requires-clause-kept g c =
    kept_same _ _ _ _ c.self.invariant refl (ap (λ xs. map (λ v. v.items) xs) c.as_slice.ensures.value)

pub returns-clause-stand : goal.returns-clause-stand
returns-clause-stand g c =
    subst (λ (lists : List (List Receipt)). AllStand c.end-core.result.journal.entries lists)
    (ap (λ xs. map (λ v. v.items) xs) c.as_slice.ensures.value ∙ ap (λ v. v.receipts) c.self.view_is)
    c.end-core.ensures.stand

pub returns-clause-apart : goal.returns-clause-apart
returns-clause-apart g c =
    subst (λ (lists : List (List Receipt)). AllApart lists)
    (ap (λ xs. map (λ v. v.items) xs) c.as_slice.ensures.value ∙ ap (λ v. v.receipts) c.self.view_is)
    c.end-core.ensures.apart
