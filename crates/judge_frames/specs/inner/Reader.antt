-- Section 7: what the frame reader does. Definitions only.
use Rattle.std.specs.Prelude.{ℕ}
use Rattle.judge_frames.specs.inner.Hex.{past}
use Rattle.judge_frames.specs.declared.reader.FrameReader.{FrameReader}

-- the reader k digits on: the same line, past them
abbrev pub moved : FrameReader → ℕ → FrameReader
moved r k = record { line = r.line; at = past r.line.now r.at k }
