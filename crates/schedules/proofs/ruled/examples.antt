mod FirstFree
mod Everything
