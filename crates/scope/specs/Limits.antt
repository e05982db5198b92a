-- Document 01, "Tables and sizes" and "Refusal numbers", and document 02: each limit, once.
use Rattle.std.specs.Prelude.{ℕ}

-- ticks of a frame: 1 to 65,536
abbrev pub most_frame : ℕ
most_frame = 65536

-- windows of a table: 1 to 64
abbrev pub most_windows : ℕ
most_windows = 64

-- the teams that share a table: its owners are 0 and 1
abbrev pub teams : ℕ
teams = 2

-- the shortest window that a board allows: 1 to 65,536
abbrev pub most_shortest : ℕ
most_shortest = 65536

-- the ticks that a board loses of every window: 0 to 65,535
abbrev pub most_lost : ℕ
most_lost = 65535

-- settings that a plan file may have before P: the shortest window, the rule and the lost ticks
abbrev pub most_settings : ℕ
most_settings = 3

-- tasks of a group: 0 to 32
abbrev pub most_tasks : ℕ
most_tasks = 32

-- C, T and D of a task: 1 to 1,000,000
abbrev pub most_of_task : ℕ
most_of_task = 1000000

-- the cycle H: at most 1,000,000
abbrev pub most_cycle : ℕ
most_cycle = 1000000

-- a length that is asked for: at most 1,000,000
abbrev pub most_length : ℕ
most_length = 1000000

-- ticks of a run: 0 to 1,100,000
abbrev pub most_ticks : ℕ
most_ticks = 1100000

-- jobs of a run: 0 to 4,096
abbrev pub most_jobs : ℕ
most_jobs = 4096

-- a number of a plan file: at most 4,294,967,295
abbrev pub most_number : ℕ
most_number = 4294967295
