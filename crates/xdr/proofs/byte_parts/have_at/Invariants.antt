use Rattle.std.proofs.Common.{drop}
use Rattle.std.specs.List.{concat}
use Rattle.xdr.specs.Parts.{StandAt}
use Rattle.xdr.proofs.byte_parts.have_at.Given as goal

-- what is left of the bytes stands in the parts that are left just if all stand in all of them
abbrev pub invariant-loop-part : goal.invariant-loop-part
invariant-loop-part l = record {
  all : StandAt l.before l.left (concat (drop l.part-index l.parts)) → StandAt l.from l.bytes (concat l.parts);
  rest : StandAt l.from l.bytes (concat l.parts) → StandAt l.before l.left (concat (drop l.part-index l.parts));
}
