-- Changes of a file for which there is room.
use Rattle.std.proofs.Common.{◌≡◌, ℕ, ◌-◌, ◌≤◌, List, ◌++◌, Option, Some, None, length, take, sym, ◌∙◌, ap, arith, subst}
use Rattle.std.specs.Prelude.{IfSome, option_map, replicate}
use Rattle.std.proofs.lemmas.List.{length-append, length-replicate, length-take-le}
use Rattle.nfs_state.specs.FileChange.{ComesWith}
use Rattle.nfs_state.specs.Files.{cut_to}
use Rattle.nfs_state.specs.Pages.{AreFilledUp, page_start}
use Rattle.nfs_state.specs.declared.file_change.FileChange.{FileChange}
use Rattle.nfs_state.specs.declared.stored_file.ReadyChange.{ReadyChange}
use Rattle.nfs_state.proofs.FileChanges.{filled, filled_again, filled_fits, filled_front}

-- what is known of the change for which there is room
pub room_known : (pages : List ℕ) (ready : Option ReadyChange) (w : ReadyChange) (change : FileChange)
    → IfSome ready (λ w. ComesWith pages w.change w.pages)
    → ready ≡ Some w → option_map (λ (w : ReadyChange). w.change) ready ≡ Some change
    → ComesWith pages change w.pages
room_known pages None w change holds is same = absurd (cc is)
room_known pages (Some v) w change holds is same =
    let of_v : v ≡ w = cc is in
    let at : v.change ≡ change = cc same in
    subst (λ (u : ReadyChange). ComesWith pages change u.pages) of_v (subst (λ (made : FileChange). ComesWith pages made v.pages) at holds)

-- the first bytes of pages in which zeros stand behind the file
pub cut_shown : (used size : ℕ) (all : List ℕ) → AreFilledUp (take used all) all → used ≤ length all → size ≤ length all → take size all ≡ cut_to size (take used all)
cut_shown used size all is few within =
    let bytes = take used all in
    let left = length all - length bytes in
    ap (take size) is
    ∙ filled size left size bytes (omega (arith, within, ap length is, length-append bytes (replicate {A = ℕ} left 0), length-replicate {A = ℕ} left 0)) (omega arith)

-- the file after its size is set: its bytes, and zeros behind them
pub cut_file : (used size : ℕ) (end all new : List ℕ) → AreFilledUp (take used all) all → used ≤ length all → size ≤ length all
    → AreFilledUp (take size all) (take (page_start size) all ++ end) → new ≡ take (page_start size) all ++ end
    → (take size new ≡ cut_to size (take used all)) × AreFilledUp (take size new) new × (size ≤ length new)
cut_file used size end all new is few within filled_up comes =
    let bytes = take size all in
    let many : length bytes ≡ size = length-take-le size all within in
    let now : AreFilledUp bytes new = subst (λ xs. AreFilledUp bytes xs) (sym comes) filled_up in (
      filled_front bytes new size now many ∙ cut_shown used size all is few within,
      filled_again bytes new size now many,
      omega (arith, many, filled_fits bytes new now),
    )
