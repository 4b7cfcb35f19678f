-- What the functions for other languages return and write: an operation's answer as a number and arrays, and all that is lent as the operation leaves
-- it. Definitions only.
use Rattle.std.specs.Prelude.{ℕ, List, Float}
use Rattle.c_layouts.specs.Coded.{Coded, coded, coded_as, Arrays}
use Rattle.c_layouts.specs.Layouts.{test_arrays, way_arrays, count_of, dapc_numbers}
use Rattle.permanova.specs.Call as test
use Rattle.exhaustive_hits.specs.Call as ways
use Rattle.ordination_pcoa.specs.Call as pcoa
use Rattle.ordination_hash_pca.specs.Call as hashes
use Rattle.dapc_discriminant.specs.Outputs as dapc
use Rattle.eigen_jacobi.specs.Call as jacobi
use Rattle.eigen_top.specs.Call as top
use Rattle.ordination_gram.specs.Call as gram
use Rattle.outcome.specs.Outcome.{code}

-- ---- `test`

pub record Test : Type 0 where
  pub told : Coded Arrays
  pub after : test.Slices

unfoldable pub export_test : test.Called → Arrays → Test
export_test c before = record { told = coded test_arrays c.answer before; after = c.after }

abbrev pub test_export : ℕ → Arrays → test.Slices → Test
test_export code parts after = record { told = coded_as code parts; after = after }

-- ---- `exhaustive`

pub record EveryWay : Type 0 where
  pub told : Coded Arrays
  pub after : ways.Slices

unfoldable pub export_ways : ways.Called → Arrays → EveryWay
export_ways c before = record { told = coded way_arrays c.answer before; after = c.after }

abbrev pub ways_export : ℕ → Arrays → ways.Slices → EveryWay
ways_export code parts after = record { told = coded_as code parts; after = after }

-- ---- `pcoa`

pub record Pcoa : Type 0 where
  pub code : ℕ
  pub out : List Float
  pub b : List Float
  pub w : List Float
  pub m : List Float
  pub v : List Float

unfoldable pub export_pcoa : pcoa.Called → Pcoa
export_pcoa c = record { code = code c.answer; out = c.out; b = c.b; w = c.w; m = c.m; v = c.v }

abbrev pub pcoa_export : ℕ → List Float → List Float → List Float → List Float → List Float → Pcoa
pcoa_export code out b w m v = record { code = code; out = out; b = b; w = w; m = m; v = v }

-- ---- `hash_pca`

pub record HashPca : Type 0 where
  pub told : Coded ℕ
  pub out : List Float
  pub b : List Float
  pub w : List Float
  pub m : List Float
  pub v : List Float
  pub words : List ℕ

-- the number of selected hashes is written where there is an answer
unfoldable pub export_hash_pca : hashes.Called → ℕ → HashPca
export_hash_pca c before =
    record { told = coded count_of c.answer before; out = c.out; b = c.b; w = c.w; m = c.m; v = c.v; words = c.words }

abbrev pub hash_pca_export : ℕ → ℕ → List Float → List Float → List Float → List Float → List Float → List ℕ → HashPca
hash_pca_export code selected out b w m v words = record { told = coded_as code selected; out = out; b = b; w = w; m = m; v = v; words = words }

-- ---- `dapc`

pub record Dapc : Type 0 where
  pub told : Coded (List ℕ)
  pub out : List Float
  pub assigned : List ℕ

unfoldable pub export_dapc : dapc.Called → List ℕ → Dapc
export_dapc c before = record { told = coded dapc_numbers c.answer before; out = c.out; assigned = c.assigned }

abbrev pub dapc_export : ℕ → List Float → List ℕ → List ℕ → Dapc
dapc_export code out assigned numbers = record { told = coded_as code numbers; out = out; assigned = assigned }

-- ---- `jacobi_eigen`

pub record JacobiEigen : Type 0 where
  pub told : Coded ℕ
  pub out : List Float
  pub m : List Float
  pub v : List Float

-- the number of sweeps is written where there is an answer
unfoldable pub export_jacobi : jacobi.Called → ℕ → JacobiEigen
export_jacobi c before = record { told = coded count_of c.answer before; out = c.out; m = c.m; v = c.v }

abbrev pub jacobi_export : ℕ → ℕ → List Float → List Float → List Float → JacobiEigen
jacobi_export code sweeps out m v = record { told = coded_as code sweeps; out = out; m = m; v = v }

-- ---- `top_eigs`

pub record TopEigs : Type 0 where
  pub code : ℕ
  pub out : List Float
  pub w : List Float
  pub m : List Float
  pub v : List Float

unfoldable pub export_top : top.Called → TopEigs
export_top c = record { code = code c.answer; out = c.out; w = c.w; m = c.m; v = c.v }

abbrev pub top_export : ℕ → List Float → List Float → List Float → List Float → TopEigs
top_export code out w m v = record { code = code; out = out; w = w; m = m; v = v }

-- ---- `gram_matrix`

pub record GramMatrix : Type 0 where
  pub told : Coded ℕ
  pub out : List Float
  pub words : List ℕ

-- the number of selected hashes is written where there is an answer
unfoldable pub export_gram : gram.Called → ℕ → GramMatrix
export_gram (gram.leaves answer out words) before = record { told = coded count_of answer before; out = out; words = words }

abbrev pub gram_export : ℕ → ℕ → List Float → List ℕ → GramMatrix
gram_export code selected out words = record { told = coded_as code selected; out = out; words = words }
