-- Journals that the rules allow.
use Rattle.std.specs.Prelude.{◌≡◌, List, [], ◌∷◌}
use Rattle.nfs_state.specs.declared.entry.Entry.{Entry}
use Rattle.nfs_state.specs.State.{State, History, empty_server}
use Rattle.nfs_core.specs.Step.{Step}
use Rattle.nfs_state.specs.Entries.{with_entry}

-- starting in the state old with this journal, the entries lead one after the other to the state new
abbrev pub Leads : History → State → List Entry → State → Type 0
Leads journal old [] new = new ≡ old
Leads journal old (entry ∷ entries) new =
    (mid : State) × Step journal old entry mid × Leads (with_entry entry journal) mid entries new

-- the journal leads from an empty server with the journal's tree to this state
abbrev pub Lawful : History → State → Type 0
Lawful journal state =
    Leads (record journal { entries = [] }) (empty_server journal.nodes) journal.entries state

-- A journal leads to at most one state.
abbrev pub AtMostOneState : Type 0
AtMostOneState =
    (journal : History) (state state' : State)
    → Lawful journal state
    → Lawful journal state'
    → state ≡ state'
