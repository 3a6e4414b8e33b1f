use Rattle.std.proofs.Common.{ap, refl, sym, ◌∙◌}
use Rattle.nfs_owners.specs.Registry.{is_live}
use Rattle.nfs_state.specs.State.{History}
use Rattle.nfs_state.specs.Stored.{Stored}
use Rattle.link_tests.proofs.two_links_at_once.serve_links.Goals as goal

pub serve_links_in-requires-clause-beginning : goal.serve_links_in-requires-clause-beginning
serve_links_in-requires-clause-beginning g c κs within =
    let core = c.in-Ok-new-2.ensures in record {
      run = refl;
      start = refl;
      lease = c.in-Ok.ensures.lease ∙ sym (ap (λ (j : History). j.lease) core.journal);
      empty = ap (λ (j : History). j.entries) core.journal;
      nobody = λ number. ap (λ (s : Stored). is_live number s.clients) core.stored;
    }
