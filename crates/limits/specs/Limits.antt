-- The limits of documents 01 and 02, once for all definitions. Definitions only.
use Rattle.std.specs.Prelude.{ℕ, ◌/◌}

-- n, the samples in a lot
abbrev pub most_samples : ℕ
most_samples = 256

-- n_perm, the shuffles of the sampled test
abbrev pub most_shuffles : ℕ
most_shuffles = 999999

-- components of an ordination, and those of the exhaustive test's
abbrev pub most_components : ℕ
most_components = 16

abbrev pub judged_components : ℕ
judged_components = 8

-- columns of coordinates
abbrev pub most_columns : ℕ
most_columns = 16

-- hashes given, and hashes selected (document 02, Q-7)
abbrev pub most_hashes : ℕ
most_hashes = 65536

abbrev pub most_selected : ℕ
most_selected = 1024

-- words of 64 bits that hold a bit for each selected hash
abbrev pub selected_words : ℕ
selected_words = most_selected / 64

-- ways of the labels
abbrev pub most_ways : ℕ
most_ways = 20000

-- no label, no stratum, no group
abbrev pub none : ℕ
none = 65535

-- bytes of a text that describes a lot, and bytes that are printed
abbrev pub most_text : ℕ
most_text = 11834

abbrev pub most_printed : ℕ
most_printed = 93

-- the byte that ends a line
abbrev pub line_feed : ℕ
line_feed = 10
