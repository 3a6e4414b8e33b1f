use Rattle.std.proofs.Common.{◌≡◌, ◌++◌, Ok, length, take}
use Rattle.std.specs.Prelude.{◌≤◌, vec_capacity}
use Rattle.std.specs.List.{flat_map}
use Rattle.nfs_server.specs.Device.{device_of_sink}
use Rattle.nfs_program.specs.Pieces.{ArePut, waiting}
use Rattle.nfs_program.proofs.pieces.put_many.Given as goal
use Rattle.xdr.specs.Writing.{written_u32}

-- the count was put, and the values so far
abbrev pub invariant-loop-number : goal.invariant-loop-number
invariant-loop-number g l = record {
  end : l.number-end ≡ length (g.V.Values.values l.values);
  put : ArePut (device_of_sink g.J.Sink.takes g.J.Sink.fails) (waiting l.fn.file l.fn.buffer.items) (written_u32 (length (g.V.Values.values l.values)) ++ flat_map g.T.Wire.form.encoding (take l.number (g.V.Values.values l.values))) (Ok tt) (waiting l.file l.buffer.items);
  kept : g.J.Sink.failures l.file ≡ g.J.Sink.failures l.fn.file;
  room : vec_capacity l.fn.buffer ≤ vec_capacity l.buffer;
}
