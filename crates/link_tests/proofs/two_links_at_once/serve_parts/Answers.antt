use Rattle.std.proofs.Common.{map, ap, subst, sym}
use Rattle.nfs_shared.specs.Ends.{AreKept}
use Rattle.link_tests.proofs.two_links_at_once.serve_parts.Goals as goal

pub end-core-requires-clause-kept : goal.end-core-requires-clause-kept
end-core-requires-clause-kept g c =
    subst (λ r. AreKept c.in-Some.field-0.seats.items r) (sym (ap (map (λ v. v.items)) c.as_slice.ensures.value)) c.in-Some.ensures.kept
