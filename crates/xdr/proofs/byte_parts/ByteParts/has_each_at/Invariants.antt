use Rattle.std.proofs.Common.{◌≡◌, ◌+◌, drop, length}
use Rattle.std.specs.List.{concat}
use Rattle.xdr.specs.Parts.{StandAt}
use Rattle.xdr.proofs.byte_parts.ByteParts.has_each_at.Given as goal

-- the parts that are left stand from here on just if all stand from the first place on
abbrev pub invariant-loop-part : goal.invariant-loop-part
invariant-loop-part l = record {
  place : l.at + length (concat (drop l.part-index l.parts)) ≡ l.from + length (concat l.parts);
  all : StandAt l.at (concat (drop l.part-index l.parts)) l.self → StandAt l.from (concat l.parts) l.self;
  rest : StandAt l.from (concat l.parts) l.self → StandAt l.at (concat (drop l.part-index l.parts)) l.self;
}
