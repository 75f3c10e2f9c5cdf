-- What a kernel takes its memory by: a reference to a budget over the memory of `malloc`.
use Rattle.std.specs.Global.{Global}
use Rattle.std.specs.Borrow.{Bor}
use Rattle.pl_budget.specs.declared.Budget.{Budget}

abbrev pub InBudget : Type 0
InBudget = Bor (Budget Global)
