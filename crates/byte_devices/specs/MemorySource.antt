-- Sources in memory.
use Rattle.std.specs.Prelude.{ℕ, List, drop}
use Rattle.byte_devices.specs.declared.memory_source.MemSource.{MemSource}

-- the bytes that are left
abbrev pub left_of : MemSource → List ℕ
left_of source = drop source.at source.bytes.items
