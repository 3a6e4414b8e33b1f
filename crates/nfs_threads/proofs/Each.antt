-- Connections that are served one after the other.
use Rattle.std.proofs.Common.{◌≡◌, List, [], ◌∷◌, ◌++◌, refl, subst, sym, append_assoc}
use Rattle.std.proofs.lemmas.List.{append-nil}
use Rattle.nfs_tree.specs.Tree.{Files}
use Rattle.nfs_threads.specs.declared.connection_end.ConnectionEnd.{ConnectionEnd}
use Rattle.nfs_threads.specs.Worker.{AreServed, IsServed, Linking, Stand}

-- whatever is served from here on was served, after these, from the beginning
abbrev pub Completes : {L D C : Type 0} → Linking L D C → Files → Stand L → List ConnectionEnd → Stand L → Type 0
Completes {L = L} linking tree before connections here =
    (more : List ConnectionEnd) (after : Stand L) → AreServed linking tree here more after → AreServed linking tree before (connections ++ more) after

pub one_more_served : {L D C : Type 0} (linking : Linking L D C) (tree : Files) (before : Stand L) (connections : List ConnectionEnd) (here : Stand L) (one : ConnectionEnd) (there : Stand L)
    → Completes linking tree before connections here
    → IsServed linking tree here one there
    → Completes linking tree before (connections ++ one ∷ []) there
one_more_served linking tree before connections here one there completes is more after are =
    subst (λ s. AreServed linking tree before s after) (sym (append_assoc connections (one ∷ []) more))
    (completes (one ∷ more) after (there, is, are))

pub all_served : {L D C : Type 0} (linking : Linking L D C) (tree : Files) (before : Stand L) (connections : List ConnectionEnd) (here : Stand L)
    → Completes linking tree before connections here
    → AreServed linking tree before connections here
all_served linking tree before connections here completes =
    subst (λ s. AreServed linking tree before s here) (append-nil connections) (completes [] here refl)

pub none_served : {L D C : Type 0} (linking : Linking L D C) (tree : Files) (before : Stand L) (connections : List ConnectionEnd) → connections ≡ [] → AreServed linking tree before connections before
none_served linking tree before connections empty =
    subst (λ s. AreServed linking tree before s before) (sym empty) refl
