use Rattle.std.proofs.Common.{◌≡◌, ◌^◌, ◌<◌, drop}
use Rattle.nfs_rpc.specs.ReadingAddresses.{digits_after}
use Rattle.nfs_rpc.proofs.universal_address.number_of.Given as goal

-- The digits so far are read, and the others are to follow them.
abbrev pub invariant-loop-byte : goal.invariant-loop-byte
invariant-loop-byte l = record {
  reads : digits_after 0 l.text ≡ digits_after l.value (drop l.byte-index l.text);
  small : l.value < 10 ^ l.byte-index;
}
