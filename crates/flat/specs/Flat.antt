-- Files of blocks in memory, file by file.
use Rattle.std.specs.Prelude.{◌≡◌, ℕ, ◌+◌, ◌*◌, ◌/◌, ◌≤◌, min, cond, ◌&&◌, List, [], length, Bool, Result, ◌==◌, nat_le, nat_lt}
use Rattle.blocks.specs.Blocks.{Contents}
use Rattle.memory.specs.Memory.{block_at}
use Rattle.faults.specs.declared.Fault.{Fault}
use Rattle.lowers.specs.Lowers.{CopiesOut, Changes}
use Rattle.lowers.specs.declared.sizes.Sizes.{Sizes}

-- the blocks of a file: as many as given, and none where more than 65,536 are given
abbrev pub width_of : ℕ → ℕ
width_of given = cond (nat_le given 65536) given 0

-- the whole files of so many blocks that fit into so many bytes, at most 65,536, and none where a file has no blocks
abbrev pub files_in : ℕ → ℕ → ℕ
files_in bytes width = cond (width == 0) 0 (min (bytes / (width * 4096)) 65536)

-- a block's index among all blocks in memory, where each file has so many
abbrev pub index_of : ℕ → ℕ → ℕ → ℕ
index_of width file block = file * width + block

-- what each block of each file holds, and nothing past the last file or the last block
abbrev pub bytes_in : List ℕ → ℕ → ℕ → Contents
bytes_in memory files width f b = cond (nat_lt f files && nat_lt b width) (block_at memory (index_of width f b)) []

-- The memory is laid out as so many files of so many blocks.
pub record Laid (memory : List ℕ) (files width : ℕ) : Type 0 where
  pub whole : files ≡ files_in (length memory) width
  pub narrow : width ≤ 65536

-- What a read of files in memory answers and leaves.
abbrev pub CopiesOutIn : List ℕ → Sizes → ℕ → ℕ → List ℕ → Result (Unit {0}) Fault → List ℕ → List ℕ → Sizes → Type 0
CopiesOutIn memory sizes file block buffer answer buffer_after memory_after sizes_after =
    CopiesOut sizes.files sizes.width (bytes_in memory sizes.files sizes.width) file block buffer answer buffer_after
    sizes_after.files sizes_after.width (bytes_in memory_after sizes_after.files sizes_after.width)

-- What a call that changes some blocks of a file in memory answers and leaves.
abbrev pub ChangesIn : List ℕ → Sizes → ℕ → (ℕ → Bool) → (ℕ → List ℕ) → Result (Unit {0}) Fault → Result (Unit {0}) Fault → List ℕ → Sizes → Type 0
ChangesIn memory sizes file chosen new due answer memory_after sizes_after =
    Changes sizes.files sizes.width (bytes_in memory sizes.files sizes.width) file chosen new due answer
    sizes_after.files sizes_after.width (bytes_in memory_after sizes_after.files sizes_after.width)
