-- A worker's receipts, connection by connection.
use Rattle.std.specs.Prelude.{◌≡◌, List, [], ◌∷◌}
use Rattle.std.specs.List.{flat_map}
use Rattle.nfs_shared.specs.Seats.{SeatView}
use Rattle.nfs_shared.specs.declared.receipt.Receipt.{Receipt}
use Rattle.nfs_server.specs.Connection.{all_exchanges}
use Rattle.nfs_server.specs.Exchange.{questions_of}
use Rattle.nfs_server.specs.Serves.{exported}
use Rattle.nfs_threads.specs.Receipts.{GainsReceipts}
use Rattle.nfs_threads.specs.Worker.{IsServed, Linking, Stand}
use Rattle.nfs_threads.specs.declared.connection_end.ConnectionEnd.{ConnectionEnd}
use Rattle.nfs_threads.specs.declared.worker_end.WorkerEnd.{WorkerEnd}
use Rattle.nfs_tree.specs.Tree.{Files}

-- The connection was served, and the desk gained this part for what was asked in it.
abbrev pub IsPart : {L D C : Type 0} → Linking L D C → Files → Stand L → ConnectionEnd → List Receipt
    → Stand L → Type 0
IsPart linking tree before connection part after =
    (is : IsServed linking tree before connection after)
    × (gains : GainsReceipts before.desk
    (flat_map (questions_of (exported tree linking.served)) (all_exchanges is.course.0))
    (flat_map (λ e. e.answers) (all_exchanges is.course.0)) after.desk)
    × (gains.receipts ≡ part)

-- the connections were served in order, and each gained the part at its place
abbrev pub AreParts : {L D C : Type 0} → Linking L D C → Files → Stand L → List ConnectionEnd
    → List (List Receipt) → Stand L → Type 0
AreParts linking tree before [] [] after = after ≡ before
AreParts linking tree before [] (part ∷ parts) after = ⊥
AreParts linking tree before (one ∷ more) [] after = ⊥
AreParts {L = L} linking tree before (one ∷ more) (part ∷ parts) after =
    (mid : Stand L) × IsPart linking tree before one part mid
    × AreParts linking tree mid more parts after

-- What a worker gives back, with its receipts cut into the parts of its connections. Its seat keeps its place.
pub record HasParts {N L D C : Type 0} (linking : Linking L D C) (tree : Files) (links : L)
    (seat : SeatView) (end : WorkerEnd N) : Type 0 where
  pub before : Stand L
  pub begun : (before.links ≡ links) × (before.desk.seat ≡ seat) × (before.desk.receipts ≡ [])
  pub after : Stand L
  pub parts : List (List Receipt)
  pub are : AreParts linking tree before end.shift.connections.items parts after
  pub all : end.receipts.items ≡ flat_map (λ part. part) parts
  pub place : end.seat.place ≡ seat.place
