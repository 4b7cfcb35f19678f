-- What the functions for other languages return and write, by what the operations answer and how it is laid out.
use Rattle.lists.proofs.Base.{◌≡◌, ap, ◌∙◌, List, ℕ, Float}
use Rattle.std.specs.Prelude.{Result}
use Rattle.outcome.specs.declared.Refusal.{Refusal}
use Rattle.permanova_sampling.specs.declared.TestResult.{TestResult}
use Rattle.exhaustive_hits.specs.declared.judgement.Judgement.{Judgement}
use Rattle.dapc_discriminant.specs.declared.Separation.{Separation}
use Rattle.permanova.specs.Call as test
use Rattle.exhaustive_hits.specs.Call as ways
use Rattle.ordination_pcoa.specs.Call as pcoa
use Rattle.ordination_gram.specs.Call as gram
use Rattle.ordination_hash_pca.specs.Call as hashes
use Rattle.dapc_discriminant.specs.Outputs as dapc
use Rattle.eigen_jacobi.specs.Call as jacobi
use Rattle.eigen_top.specs.Call as top
use Rattle.c_layouts.specs.Coded.{Coded, coded, coded_as, Arrays}
use Rattle.c_layouts.specs.Layouts.{test_arrays, way_arrays, count_of, dapc_numbers}
use Rattle.lotjudge_c.specs.Exported.{export_test, test_export, export_ways, ways_export, export_pcoa, pcoa_export, export_hash_pca, hash_pca_export}
use Rattle.lotjudge_c.specs.Exported.{export_dapc, dapc_export, export_jacobi, jacobi_export, export_top, top_export, export_gram, gram_export}
use Rattle.outcome.specs.{Numbers.told, Outcome.code}

pub test-returns : (a : Result TestResult Refusal) {s : test.Slices} {c : test.Called} {code : ℕ} {parts : Arrays} (before : Arrays)
    → test.called a s ≡ c → coded_as code parts ≡ coded test_arrays (test.answer_of a) before → test_export code parts s ≡ export_test c before
unfolding export_test
test-returns a {s = s} before e f = ap (λ (t : Coded Arrays). record { told = t; after = s }) f ∙ ap (λ (c : test.Called). export_test c before) e

pub ways-return : (a : Result Judgement Refusal) {s : ways.Slices} {c : ways.Called} {code : ℕ} {parts : Arrays} (before : Arrays)
    → ways.called a s ≡ c → coded_as code parts ≡ coded way_arrays (ways.answer_of a) before → ways_export code parts s ≡ export_ways c before
unfolding export_ways
ways-return a {s = s} before e f = ap (λ (t : Coded Arrays). record { told = t; after = s }) f ∙ ap (λ (c : ways.Called). export_ways c before) e

pub pcoa-returns : (r : Result Unit Refusal) {k : ℕ} {out b w m v : List Float} {c : pcoa.Called} → pcoa.called r out b w m v ≡ c → k ≡ code (told r) → pcoa_export k out b w m v ≡ export_pcoa c
unfolding export_pcoa
pcoa-returns r {out = out} {b = b} {w = w} {m = m} {v = v} e f = (λ i. pcoa_export (f i) out b w m v) ∙ ap export_pcoa e

pub hash-pca-returns : (a : Result ℕ Refusal) {code selected : ℕ} {out b w m v : List Float} {words : List ℕ} {c : hashes.Called} (before : ℕ)
    → hashes.called a out b w m v words ≡ c → coded_as code selected ≡ coded count_of (gram.outcome_of a) before
    → hash_pca_export code selected out b w m v words ≡ export_hash_pca c before
unfolding export_hash_pca
hash-pca-returns a {out = out} {b = b} {w = w} {m = m} {v = v} {words = words} before e f =
    ap (λ (t : Coded ℕ). record { told = t; out = out; b = b; w = w; m = m; v = v; words = words }) f ∙ ap (λ (c : hashes.Called). export_hash_pca c before) e

pub dapc-returns : (a : Result Separation Refusal) {code : ℕ} {out : List Float} {assigned numbers : List ℕ} {c : dapc.Called} (before : List ℕ)
    → dapc.called a out assigned ≡ c → coded_as code numbers ≡ coded dapc_numbers (dapc.outcome_of a) before → dapc_export code out assigned numbers ≡ export_dapc c before
unfolding export_dapc
dapc-returns a {out = out} {assigned = assigned} before e f =
    ap (λ (t : Coded (List ℕ)). record { told = t; out = out; assigned = assigned }) f ∙ ap (λ (c : dapc.Called). export_dapc c before) e

pub jacobi-returns : (a : Result ℕ Refusal) {code sweeps : ℕ} {out m v : List Float} {c : jacobi.Called} (before : ℕ)
    → jacobi.called a out m v ≡ c → coded_as code sweeps ≡ coded count_of (jacobi.outcome_of a) before → jacobi_export code sweeps out m v ≡ export_jacobi c before
unfolding export_jacobi
jacobi-returns a {out = out} {m = m} {v = v} before e f =
    ap (λ (t : Coded ℕ). record { told = t; out = out; m = m; v = v }) f ∙ ap (λ (c : jacobi.Called). export_jacobi c before) e

pub top-returns : (r : Result Unit Refusal) {k : ℕ} {out w m v : List Float} {c : top.Called} → top.called r out w m v ≡ c → k ≡ code (told r) → top_export k out w m v ≡ export_top c
unfolding export_top
top-returns r {out = out} {w = w} {m = m} {v = v} e f = (λ i. top_export (f i) out w m v) ∙ ap export_top e

pub gram-returns : (a : Result ℕ Refusal) {code selected : ℕ} {out : List Float} {words : List ℕ} {c : gram.Called} (before : ℕ)
    → gram.called a out words ≡ c → coded_as code selected ≡ coded count_of (gram.outcome_of a) before → gram_export code selected out words ≡ export_gram c before
unfolding export_gram
gram-returns a {out = out} {words = words} before e f =
    ap (λ (t : Coded ℕ). record { told = t; out = out; words = words }) f ∙ ap (λ (c : gram.Called). export_gram c before) e
