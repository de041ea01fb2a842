-- What the selection rule compares, as the program reads it of a record (R10).
use Rattle.port.specs.Compared.{Compared}
use Rattle.table.specs.declared.record.Keys.{Keys}

abbrev pub compared_by : Keys → Compared
compared_by k = record { key = k.key; aggregation = k.aggregation; system = k.system; partner_key = k.theirs; partner_aggregation = k.willing }
