use Rattle.std.proofs.Common.{subst, sym}
use Rattle.nfs_share.specs.AllOpens.{IsAboveAll, opens_in}
use Rattle.nfs_state.specs.declared.tables.Tables.{Tables}
use Rattle.nfs_state.proofs.tables.Tables.commit_open.Goals as goal
use Rattle.nfs_state.proofs.tables.Tables.commit_open.Goals.{then-is_none, else-is_none}

pub grant-requires-clause-newest : goal.grant-requires-clause-newest
grant-requires-clause-newest c = λ none.
    let given = subst (λ number. IsAboveAll number (opens_in c.args.self.now.opens)) (sym c.upcoming-number.ensures) c.requires.given.of_opens in
    let above : Tables → Type 0 = λ t. IsAboveAll c.upcoming-number.result (opens_in t.opens) in
    elim c.if-is_none.branch [
      | then-is_none w ↦ subst above (sym w.self-is) given
      | else-is_none w ↦ subst above (sym w.self-is) given
    ]
