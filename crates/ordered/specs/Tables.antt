-- What the table means.
use Rattle.std.specs.Prelude.{vec_items}
use Rattle.tables.specs.Holding.{Holding}
use Rattle.ordered.specs.declared.rows.OrderedTable.{OrderedTable}
use Rattle.ordered.specs.Ordered.{lookup}

abbrev pub holding_of : OrderedTable → Holding
holding_of t = lookup (vec_items t.rows)
