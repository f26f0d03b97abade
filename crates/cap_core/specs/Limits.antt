-- The bounds of what a simulation may be asked for: this project's profile, the same for every word size.
use Rattle.std.specs.Prelude.{ℕ}

-- the bits of the simulated memory's size in bytes
abbrev pub min_memory_bits : ℕ
min_memory_bits = 12

-- the greatest memory has 2^20 bytes
abbrev pub max_memory_bits : ℕ
max_memory_bits = 20

-- the radix of the root CNode
abbrev pub min_root_radix : ℕ
min_root_radix = 1

-- the greatest root CNode has 2^12 slots
abbrev pub max_root_radix : ℕ
max_root_radix = 12

-- what a boot makes: threads, endpoints, and capabilities of untyped regions
abbrev pub min_boot_threads : ℕ
min_boot_threads = 1

-- the greatest number of threads at boot
abbrev pub max_boot_threads : ℕ
max_boot_threads = 64

-- the greatest number of endpoints at boot
abbrev pub max_boot_endpoints : ℕ
max_boot_endpoints = 256

-- the greatest number of untyped regions at boot
abbrev pub max_boot_untypeds : ℕ
max_boot_untypeds = 64

-- the words of a message
abbrev pub max_message_words : ℕ
max_message_words = 4

-- the clients that make a simulation's calls, and the entries of their history
abbrev pub max_clients : ℕ
max_clients = 8

-- the greatest limit on the calls of a shared history
abbrev pub max_history_limit : ℕ
max_history_limit = 65536

-- the objects that one retype makes
abbrev pub max_retype_count : ℕ
max_retype_count = 256
