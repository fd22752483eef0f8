use Rattle.std.proofs.Common.{◌≡◌, ◌++◌, map, take, drop}
use Rattle.cached_map.specs.Remembering.{struck}
use Rattle.cached_map.proofs.memory.Memory.forget.Given as goal

-- The lines that were passed are struck out where they are to be, the others are as they were.
abbrev pub invariant-loop-line : goal.invariant-loop-line
invariant-loop-line l = l.line-items ≡ map (struck l.file l.first l.n) (take l.line-index l.fn.self.lines) ++ drop l.line-index l.fn.self.lines
