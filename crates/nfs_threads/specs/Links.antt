-- The links of a listener.
use Rattle.std.specs.Prelude.{◌≡◌, None, Some, IsSome}
use Rattle.nfs_threads.specs.Sockets.{socket_device}
use Rattle.nfs_threads.specs.Uptimes.{GoesOn}
use Rattle.nfs_threads.specs.declared.socket.Socket.{Socket}
use Rattle.nfs_threads.specs.declared.tcp_links.Entrance.{Entrance}
use Rattle.nfs_threads.specs.declared.tcp_links.Entrance.TheVariants as entrances
use Rattle.nfs_threads.specs.declared.tcp_links.TcpLinks.{TcpLinks}
use Rattle.nfs_threads.specs.declared.uptime.Uptime.{Uptime}
use Rattle.nfs_threads.specs.Worker.{Linking}
use Rattle.nfs_tree.specs.Exports.{Exported}

-- A listener gives one socket, which has no connection yet; a door gives one connection after the other.
abbrev pub Enters : {R : Type 0} → Entrance → Socket R → Entrance → Type 0
Enters (entrances.Listener listener) socket after =
    (socket.listener ≡ Some listener) × (socket.stream ≡ None) × (after ≡ entrances.Nowhere)
Enters entrances.Nowhere socket after = ⊥
Enters (entrances.Door door) socket after =
    (socket.listener ≡ None) × IsSome socket.stream × (after ≡ entrances.Door door)

-- The links give a socket from where their connections come in, of which nothing failed, and a clock by the run's
-- source of time that has shown nothing yet. Else only the last peer changes.
abbrev pub Opens : {R W : Type 0} → TcpLinks R W → Socket R → Uptime R → TcpLinks R W → Type 0
Opens old socket clock new =
    Enters old.entrance socket new.entrance
    × (socket.read_failures ≡ 0) × (socket.write_failures ≡ 0)
    × (clock ≡ record { rt = old.rt; source = old.source; last = 0 })
    × (new ≡ record old { entrance = new.entrance; peer = new.peer })

-- there is no further connection where none was left, or at a door, which is closed then
abbrev pub HasEnded : Entrance → Type 0
HasEnded (entrances.Listener listener) = ⊥
HasEnded entrances.Nowhere = Unit {0}
HasEnded (entrances.Door door) = Unit {0}

abbrev pub Stops : {R W : Type 0} → TcpLinks R W → TcpLinks R W → Type 0
Stops old new = HasEnded old.entrance × (new ≡ old)

-- what is known of such links, in the run that serves this
abbrev pub tcp : {R W : Type 0} → Exported → Linking (TcpLinks R W) (Socket R) (Uptime R)
tcp served = record {
  served = served;
  opens = Opens;
  stops = Stops;
  device = socket_device;
  read_failures = λ s. s.read_failures;
  write_failures = λ s. s.write_failures;
  tells = GoesOn;
}
