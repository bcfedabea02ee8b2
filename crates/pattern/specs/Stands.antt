-- What a `Judge` stands for. Assumes nothing.
use Rattle.pattern.specs.declared.judge.Judge.{Judge}
use Rattle.pattern.specs.Judging.{Standing}
use Rattle.pattern.specs.Listed.{listed}

abbrev pub stands : Judge → Standing
stands j = record { pending = j.pending; positions = listed j.positions }
