pub mod TraceNames
pub mod Traces
pub mod TraceRows
pub mod CaseTraces
pub mod CaseTraceRows
